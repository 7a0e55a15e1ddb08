-- What is judged by a part of a table, and then by the parts behind it.
use Rattle.std.proofs.Common.{ℕ, List, Result, Ok, Err, refl, inl, inr}
use Rattle.krb_messages.specs.Refusals.{IsJudged}
use Rattle.krb_messages.specs.declared.refusal.Refusal.{Refusal}
use Rattle.krb_messages.specs.declared.refusal.Refusal.TheVariants.{Krb, Memory}
use Rattle.decision_tables.specs.Tables.{Table, and_then}
use Rattle.krb_kdc_exchanges.specs.Granting.{IsGranted}
use Rattle.krb_kdc_exchanges.specs.declared.granted.Granted.{Granted}

module _ {A : Type 0} (part : Table (Result A ℕ)) where
  -- the part refuses
  pub part_refused : {T : Type 0} (rest : A → Table (Result T ℕ)) (e : Refusal) → IsJudged part.gives (Err e) → IsJudged {T = T} (and_then part rest).gives (Err e)
  part_refused rest (Krb code) x = inr (code, x, refl)
  part_refused rest Memory x = tt

  pub grant_refused : (rest : A → Table (Result (List ℕ) ℕ)) (e : Refusal) → IsJudged part.gives (Err e) → IsGranted (and_then part rest).gives (Err e)
  grant_refused rest (Krb code) x = inr (code, x, refl)
  grant_refused rest Memory x = tt

  -- the part gives a value, by which the rest judges
  pub part_passed : {T : Type 0} (rest : A → Table (Result T ℕ)) (a : A) (r : Result T Refusal) → part.gives (Ok a) → IsJudged {T = T} (rest a).gives r → IsJudged {T = T} (and_then part rest).gives r
  part_passed rest a (Ok value) x y = inl (a, x, y)
  part_passed rest a (Err (Krb code)) x y = inl (a, x, y)
  part_passed rest a (Err Memory) x y = tt

  pub grant_passed : (rest : A → Table (Result (List ℕ) ℕ)) (a : A) (r : Result Granted Refusal) → part.gives (Ok a) → IsGranted (rest a).gives r → IsGranted (and_then part rest).gives r
  grant_passed rest a (Ok made) x y = (inl (a, x, y.0), y.1)
  grant_passed rest a (Err (Krb code)) x y = inl (a, x, y)
  grant_passed rest a (Err Memory) x y = tt
