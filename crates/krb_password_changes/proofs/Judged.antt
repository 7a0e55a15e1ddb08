-- What the parts of a table give, the table gives.
use Rattle.std.proofs.Common.{◌≡◌, Result, Ok, Err, refl, sym, subst, inl, inr}
use Rattle.decision_tables.specs.Tables.{Table, and_then, done}
use Rattle.krb_password_changes.specs.declared.messages.result_code.ResultCode.{ResultCode}
use Rattle.krb_password_changes.specs.Refusals.{IsJudged}
use Rattle.krb_password_changes.specs.declared.refusal.ChangeRefusal.{ChangeRefusal}
use Rattle.krb_password_changes.specs.declared.refusal.ChangeRefusal.TheVariants.{Refused, Memory}

-- what the first part refuses is refused
pub then_refused : {A T : Type 0} (t : Table (Result A ResultCode)) (rest : A → Table (Result T ResultCode)) (refusal : ChangeRefusal)
    → IsJudged {T = A} t.gives (Err refusal) → IsJudged {T = T} (and_then t rest).gives (Err refusal)
then_refused t rest (Refused code) given = inr (code, given, refl)
then_refused t rest Memory given = tt

-- what the first part gives is judged by the rest
pub then_judged : {A T : Type 0} (t : Table (Result A ResultCode)) (rest : A → Table (Result T ResultCode)) (a : A) (judged : Result T ChangeRefusal)
    → t.gives (Ok a) → IsJudged {T = T} (rest a).gives judged → IsJudged {T = T} (and_then t rest).gives judged
then_judged t rest a (Ok value) given judged = inl (a, given, judged)
then_judged t rest a (Err (Refused code)) given judged = inl (a, given, judged)
then_judged t rest a (Err Memory) given judged = tt

check_refused : {A : Type 0} (t : Table (Result A ResultCode)) (check : A → Table (Result (Unit {0}) ResultCode)) (a : A) (refusal : ChangeRefusal)
    → t.gives (Ok a) → IsJudged {T = Unit {0}} (check a).gives (Err refusal)
    → IsJudged {T = A} (and_then t (λ b. and_then (check b) (λ _. done (Ok b)))).gives (Err refusal)
check_refused t check a (Refused code) given judged = inl (a, given, inr (code, judged, refl))
check_refused t check a Memory given judged = tt

-- what the first part gives is kept where its check passes
pub then_kept : {A : Type 0} (t : Table (Result A ResultCode)) (check : A → Table (Result (Unit {0}) ResultCode)) (a : A)
    (judged : Result (Unit {0}) ChangeRefusal) (kept : Result A ChangeRefusal)
    → t.gives (Ok a) → IsJudged {T = Unit {0}} (check a).gives judged
    → (judged ≡ Ok tt → kept ≡ Ok a) → ((refusal : ChangeRefusal) → judged ≡ Err refusal → kept ≡ Err refusal)
    → IsJudged {T = A} (and_then t (λ b. and_then (check b) (λ _. done (Ok b)))).gives kept
then_kept {A} t check a (Ok u) kept given judged passed refused =
    subst (λ (r : Result A ChangeRefusal). IsJudged {T = A} (and_then t (λ b. and_then (check b) (λ _. done (Ok b)))).gives r) (sym (passed refl))
    (inl (a, given, inl (u, judged, refl)))
then_kept {A} t check a (Err refusal) kept given judged passed refused =
    subst (λ (r : Result A ChangeRefusal). IsJudged {T = A} (and_then t (λ b. and_then (check b) (λ _. done (Ok b)))).gives r) (sym (refused refusal refl))
    (check_refused t check a refusal given judged)
