-- What a call that reads a record, or one in a file, returned.
use Rattle.std.specs.Prelude.{◌≡◌, Option, None, Some, Result, Ok, Err}
use Rattle.std.specs.declared.io.ErrorKind.{ErrorKind}
use Rattle.krb_kdc.specs.declared.fault.LookupFault.{LookupFault}
use Rattle.krb_kdc.specs.declared.fault.LookupFault.TheVariants as lookup
use Rattle.krb_realm_files.specs.declared.fault.RecordFault.{RecordFault}
use Rattle.krb_realm_files.specs.declared.fault.RecordFault.TheVariants as record_fault

-- What was read is what the octets say. They are refused as damaged only if they say nothing. Or memory ran out.
abbrev pub IsReadAs : {X : Type 0} → Option X → Result X RecordFault → Type 0
IsReadAs said (Ok x) = said ≡ Some x
IsReadAs said (Err record_fault.Damaged) = said ≡ None
IsReadAs said (Err record_fault.Memory) = Unit {0}

-- A fault of reading what the octets of a file say: a read fails by this kind of fault, the octets are damaged there, or memory ran out.
abbrev pub IsFaultAt : {X : Type 0} → (ErrorKind → Type 0) → Result X LookupFault → LookupFault → Type 0
IsFaultAt fails said (lookup.Failed kind) = fails kind
IsFaultAt fails said lookup.Damaged = said ≡ Err lookup.Damaged
IsFaultAt fails said lookup.Memory = Unit {0}

-- What was read in a file is what its octets say, or there is a fault.
abbrev pub IsSaid : {X : Type 0} → (ErrorKind → Type 0) → Result X LookupFault → Result X LookupFault → Type 0
IsSaid fails said (Ok x) = said ≡ Ok x
IsSaid fails said (Err fault) = IsFaultAt fails said fault

-- What the octets of a record say, in a file. A record that says nothing is damaged.
abbrev pub or_damaged : {X : Type 0} → Option X → Result X LookupFault
or_damaged None = Err lookup.Damaged
or_damaged (Some x) = Ok x
