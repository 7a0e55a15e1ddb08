use Rattle.std.proofs.Common.{Bool, Option, None, Some, ap, if◌then◌else◌}
use Rattle.pkinit_validation.specs.declared.policies.policy.GeneralPolicy.{GeneralPolicy}
use Rattle.krb_realm_files.proofs.laws.certificates_as_before.Goals as goal

abbrev of_agility : Bool → Bool → Option GeneralPolicy
of_agility is sha1 = if is then Some (record { takes_sha1 = sha1 }) else None

pub returns : goal.returns
returns c = λ policy off. ap (λ (is : Bool). of_agility is policy.pkinit_sha1) off
