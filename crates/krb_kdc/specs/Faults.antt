-- The faults of look-ups.
use Rattle.krb_kdc.specs.declared.fault.LookupFault.{LookupFault}
use Rattle.krb_kdc.specs.declared.fault.LookupFault.TheVariants.{Failed, Damaged, Memory}

-- The fault is that memory ran out, or one that there may be.
abbrev pub MayFail : (LookupFault → Type 0) → LookupFault → Type 0
MayFail may (Failed kind) = may (Failed kind)
MayFail may Damaged = may Damaged
MayFail may Memory = Unit {0}
