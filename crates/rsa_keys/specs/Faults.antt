-- Why there is no public value.
use Rattle.public_key_cryptography.specs.declared.group.GroupRefusal.{GroupRefusal}
use Rattle.public_key_cryptography.specs.declared.group.GroupRefusal.TheVariants as refusal
use Rattle.rsa_keys.specs.declared.fault.DhFault.{DhFault}
use Rattle.rsa_keys.specs.declared.fault.DhFault.TheVariants as fault

-- the fault of a refused group
abbrev pub fault_of : GroupRefusal → DhFault
fault_of refusal.GroupTooWeak = fault.GroupTooWeak
fault_of refusal.UnknownGroup = fault.UnknownGroup
