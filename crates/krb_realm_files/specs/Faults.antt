-- Why a realm's file can't be used.
use Rattle.std.specs.Prelude.{Option, None, Some}
use Rattle.krb_kdc.specs.declared.fault.LookupFault.{LookupFault}
use Rattle.krb_kdc.specs.declared.fault.LookupFault.TheVariants as lookup
use Rattle.krb_realm_files.specs.declared.realm_fault.FileFault.{FileFault}
use Rattle.krb_realm_files.specs.declared.realm_fault.FileFault.TheVariants.{Damaged, Unread}
use Rattle.krb_realm_files.specs.declared.pkinit_fault.PkinitFault.{PkinitFault}
use Rattle.krb_realm_files.specs.declared.pkinit_fault.PkinitFault.TheVariants as pkinit

-- the fault of the file, where a look-up in it failed
abbrev pub file_fault_of : LookupFault → Option FileFault
file_fault_of (lookup.Failed kind) = Some (Unread kind)
file_fault_of lookup.Damaged = Some Damaged
file_fault_of lookup.Memory = None

-- the fault of a file whose octets for logins by certificate are refused so
abbrev pub lookup_fault_of : PkinitFault → LookupFault
lookup_fault_of pkinit.Memory = lookup.Memory
lookup_fault_of pkinit.NotThree = lookup.Damaged
lookup_fault_of pkinit.Certificate = lookup.Damaged
lookup_fault_of pkinit.Key = lookup.Damaged
lookup_fault_of (pkinit.Refused why) = lookup.Damaged
lookup_fault_of pkinit.OtherKey = lookup.Damaged
lookup_fault_of pkinit.Anchor = lookup.Damaged
