-- What the cases behind a value that was read give, the table gives.
use Rattle.std.proofs.Common.{◌≡◌, ℕ, Result, Ok, Err, inl, inr}
use Rattle.cms_signed_data.specs.SignedContents.{Reads}
use Rattle.cms_signed_data.specs.declared.fault.SignedFault.{SignedFault}
use Rattle.cms_signed_data.specs.declared.fault.SignedFault.TheVariants as signed_fault
use Rattle.decision_tables.specs.One.{IsSole}
use Rattle.decision_tables.specs.Tables.{Table, ask}
use Rattle.krb_messages.specs.Refusals.{IsJudged}
use Rattle.krb_messages.specs.declared.refusal.Refusal.{Refusal}
use Rattle.krb_messages.specs.declared.refusal.Refusal.TheVariants.{Krb, Memory}

pub judged_ask : {A T : Type 0} (P : A → Type 0) (sole : IsSole P) (otherwise : Table (Result T ℕ)) (rest : A → Table (Result T ℕ)) (a : A) (r : Result T Refusal)
    → P a → IsJudged (rest a).gives r → IsJudged (ask P sole otherwise rest).gives r
judged_ask P sole otherwise rest a (Ok x) p g = inl (a, p, g)
judged_ask P sole otherwise rest a (Err (Krb code)) p g = inl (a, p, g)
judged_ask P sole otherwise rest a (Err Memory) p g = tt

-- no signed content was read
pub none_read : {T : Type 0} (is : T → Type 0) (fault : SignedFault) → (fault ≡ signed_fault.Memory → ⊥) → Reads is (Err fault) → (value : T) → is value → ⊥
none_read is fault other (inl memory) value holds = other (cc (memory))
none_read {T} is fault other (inr reads) value holds = let found : Err fault ≡ Ok value = (reads value).1 holds in absurd (cc (found))
