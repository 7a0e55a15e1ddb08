-- No pair of client and time is admitted twice over a list of calls, and a refused call leaves the pairs.
use Rattle.std.proofs.Common.{◌≡◌, ℕ, ◌+◌, suc, List, [], ◌∷◌, ◌++◌, length, max, Result, Ok, Err, inl, inr, refl, sym, ap, subst, arith}
use Rattle.krb_messages.specs.Refusals.{Code}
use Rattle.krb_ap_requests.specs.Entry.{EntryRecord}
use Rattle.krb_service.specs.Pair.{PairRecord}
use Rattle.krb_service.specs.Admission.{AdmissionRecord}
use Rattle.krb_ap_requests.specs.declared.refusal.AdmitRefusal.{AdmitRefusal}
use Rattle.krb_ap_requests.specs.declared.refusal.AdmitRefusal.TheVariants.{Unreadable, Krb, Memory}
use Rattle.krb_service.proofs.Admitting.{admissible_with}
use Rattle.krb_service.specs.Once.{Admitted}
use Rattle.krb_service.specs.OnceForEver.{AreOnce, admissions_in}
use Rattle.krb_service.specs.RememberingService.{Outcome, outcome_of, remembering_by, remembering_with}
use Rattle.krb_service.specs.Runs.{AdmissionCall, IsAdmissionAnswer, IsRun, answer_to}
use Rattle.krb_service.specs.Service.{ServiceRecord}

-- what is refused leaves the pairs
kept_by : (admitted : List PairRecord) (made : Result Admitted Code) (refusal : AdmitRefusal) (next : List PairRecord) → ◌≡◌ {A = Outcome} (Err refusal, next) (outcome_of admitted made) → next ≡ admitted
kept_by admitted (Ok made) refusal next e = let clash : ◌≡◌ {A = Result AdmissionRecord AdmitRefusal} (Err refusal) (Ok made.admission) = ap (λ o. o.0) e in absurd (cc (clash))
kept_by admitted (Err code) refusal next e = ap (λ o. o.1) e

kept_by_table : (skew moment : ℕ) (admitted : List PairRecord) (call : AdmissionCall) (refusal : AdmitRefusal) (next : List PairRecord)
    → (answer_to skew moment admitted call).gives (Err refusal, next) → next ≡ admitted
unfolding remembering_by
kept_by_table skew moment admitted call refusal next (inl x) = kept_by admitted x.2.0 refusal next x.2.2
kept_by_table skew moment admitted call refusal next (inr x) = ap (λ o. o.1) x.1

kept_refused : (skew moment : ℕ) (admitted : List PairRecord) (call : AdmissionCall) (refusal : AdmitRefusal) (next : List PairRecord)
    → IsAdmissionAnswer (answer_to skew moment admitted call).gives admitted (Err refusal) next → next ≡ admitted
kept_refused skew moment admitted call Unreadable next x = kept_by_table skew moment admitted call Unreadable next x
kept_refused skew moment admitted call (Krb code) next x = kept_by_table skew moment admitted call (Krb code) next x
kept_refused skew moment admitted call Memory next x = x

pub refused_by_moment_alone : (skew greatest : ℕ) (admitted : List PairRecord) (call : AdmissionCall) (calls : List AdmissionCall) (refusal : AdmitRefusal)
    (answers : List (Result AdmissionRecord AdmitRefusal)) (after : List PairRecord)
    → IsRun skew greatest admitted (call ∷ calls) (Err refusal ∷ answers) after → IsRun skew (max greatest call.moment) admitted calls answers after
unfolding IsRun
refused_by_moment_alone skew greatest admitted call calls refusal answers after (next, answered, rest) =
    subst (λ pairs. IsRun skew (max greatest call.moment) pairs calls answers after)
    (kept_refused skew (max greatest call.moment) admitted call refusal next answered) rest

-- a service of one key that has this entry and this skew
abbrev pub service_by : EntryRecord → ℕ → ServiceRecord
service_by entry skew = record { entry = entry; seen = record { greatest = 0; skew = skew; held = [] } }

by_service : (skew moment : ℕ) (admitted : List PairRecord) (call : AdmissionCall) (outcome : Outcome) → (answer_to skew moment admitted call).gives outcome
    → (remembering_with call.fields (service_by call.entry skew) moment admitted call.message call.words).gives outcome
unfolding remembering_by remembering_with
by_service skew moment admitted call outcome x = x

-- what is admitted adds one pair, which is new
added : (skew moment : ℕ) (admitted : List PairRecord) (call : AdmissionCall) (admission : AdmissionRecord) (next : List PairRecord) → AreOnce admitted
    → (answer_to skew moment admitted call).gives (Ok admission, next) → AreOnce next × (length next ≡ suc (length admitted))
added skew moment admitted call admission next once given =
    let by = admissible_with call.fields (service_by call.entry skew) moment admitted call.message call.words admission next (by_service skew moment admitted call (Ok admission, next) given) in
    subst (λ pairs. AreOnce pairs × (length pairs ≡ suc (length admitted))) (sym by.4) ((by.1.first, once), refl)

pub once_for_ever : (skew greatest : ℕ) (admitted : List PairRecord) (calls : List AdmissionCall) (answers : List (Result AdmissionRecord AdmitRefusal)) (after : List PairRecord)
    → AreOnce admitted → IsRun skew greatest admitted calls answers after → AreOnce after × (length after ≡ admissions_in answers + length admitted)
unfolding IsRun
once_for_ever skew greatest admitted [] [] after once e = (subst AreOnce (sym e) once, omega (arith, ap (λ (pairs : List PairRecord). length pairs) e))
once_for_ever skew greatest admitted [] (answer ∷ answers) after once none = absurd none
once_for_ever skew greatest admitted (call ∷ calls) [] after once none = absurd none
once_for_ever skew greatest admitted (call ∷ calls) (Ok admission ∷ answers) after once (next, answered, rest) =
    let more = added skew (max greatest call.moment) admitted call admission next once answered in
    let others = once_for_ever skew (max greatest call.moment) next calls answers after more.0 rest in
    (others.0, omega (arith, others.1, more.1))
once_for_ever skew greatest admitted (call ∷ calls) (Err refusal ∷ answers) after once run =
    once_for_ever skew (max greatest call.moment) admitted calls answers after once (refused_by_moment_alone skew greatest admitted call calls refusal answers after run)

pub admissions-append : (answers others : List (Result AdmissionRecord AdmitRefusal)) → admissions_in (answers ++ others) ≡ admissions_in answers + admissions_in others
admissions-append [] others = omega arith
admissions-append (Ok admission ∷ answers) others = omega (arith, admissions-append answers others)
admissions-append (Err refusal ∷ answers) others = admissions-append answers others
