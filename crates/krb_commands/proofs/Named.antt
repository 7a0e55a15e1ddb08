-- Stops of arguments that name no principal.
use Rattle.std.proofs.Common.{◌≡◌, ◌⊎◌, inl, inr, List, ℕ, Option, None, Result, Ok, Err, refl}
use Rattle.std.specs.Prelude.{IsErr}
use Rattle.krb_messages.specs.NameReading.{IsFault}
use Rattle.krb_messages.specs.declared.name_reading.NameTextFault.{NameTextFault}
use Rattle.krb_messages.specs.declared.name_reading.NameTextFault.TheVariants as fault
use Rattle.krb_commands.specs.Stops.{IsUsage}
use Rattle.krb_commands.specs.declared.stop.Stop.{Stop}
use Rattle.krb_commands.specs.declared.stop.Stop.TheVariants.{Failed, Memory, Refused, Usage}

-- whatever the text is
pub any_usage : (words : Option (List ℕ)) (stop : Stop) → IsUsage words stop → IsUsage None stop
any_usage words (Refused text) is = absurd is
any_usage words (Failed text) is = absurd is
any_usage words (Usage text) is = tt
any_usage words Memory is = tt

-- the stop of a name's fault
pub unnamed_as : {A : Type 0} (read : Result A NameTextFault) (told : NameTextFault) (stop : Stop) → IsFault read told → (told ≡ fault.Memory → stop ≡ Memory)
    → IsUsage None stop → (stop ≡ Memory) ⊎ (IsUsage None stop × IsErr read)
unnamed_as {A} (Ok name) told stop is memory usage = elim is as (λ _. (stop ≡ Memory) ⊎ (IsUsage None stop × IsErr {T = A} {E = NameTextFault} (Ok name))) [
  | inl out ↦ inl (memory out)
  | inr same ↦ absurd (cc (same))
]
unnamed_as {A} (Err other) told stop is memory usage = elim is as (λ _. (stop ≡ Memory) ⊎ (IsUsage None stop × IsErr {T = A} {E = NameTextFault} (Err other))) [
  | inl out ↦ inl (memory out)
  | inr same ↦ inr (usage, refl)
]
