-- When the realm of a file gives no reply to a message.
use Rattle.std.specs.Prelude.{◌≡◌, ◌≢◌, ◌⊎◌, List, Option, None, Some, Ok, Err}
use Rattle.std.specs.declared.io.ErrorKind.{ErrorKind}
use Rattle.picky_asn1.specs.Bytes.{Bytes}
use Rattle.krb_realm_accounts.specs.Accounts.{Look}
use Rattle.krb_kdc.specs.Failing.{Involves}
use Rattle.krb_kdc.specs.Sources.{AsksByCertificate}
use Rattle.krb_kdc.specs.declared.fault.LookupFault.{LookupFault}
use Rattle.krb_kdc.specs.declared.fault.LookupFault.TheVariants.{Failed, Damaged, Memory}
use Rattle.krb_realm_files.specs.Files.{IsLookOf, account_said, realm_said}
use Rattle.krb_realm_files.specs.declared.realm_parameters.RealmParameters.{RealmParameters}
use Rattle.krb_realm_files.specs.Means.{IsUnusable}
use Rattle.krb_realm_files.specs.declared.pkinit_fault.PkinitFault.{PkinitFault}
use Rattle.krb_realm_files.specs.declared.pkinit_fault.PkinitFault.TheVariants as pkinit

-- Logins by certificate can't be answered by these octets.
abbrev pub AreUnusable : Bytes → Type 0
AreUnusable octets = (fault : PkinitFault) × (fault ≢ pkinit.Memory) × IsUnusable octets fault

-- There are octets for logins by certificate, by which none can be answered.
abbrev pub IsWithout : Option Bytes → Type 0
IsWithout None = ⊥
IsWithout (Some octets) = AreUnusable octets

-- By this fault nothing is given that judges requests by certificate: their octets are damaged.
abbrev pub FailsMeans : Option Bytes → LookupFault → Type 0
FailsMeans octets fault = (fault ≡ Damaged) × IsWithout octets

-- The octets are damaged at an account that the message involves, whatever accounts the file may have.
abbrev pub IsDamagedAccount : Bytes → Bytes → Bytes → Type 0
IsDamagedAccount bytes realm message =
    (name : List Bytes) × ((all : Look) → IsLookOf bytes all → Involves realm all message name) × (account_said bytes name ≡ Err Damaged)

-- The octets are damaged for a message: at the realm's record, at an account that the message involves, or, if it asks by certificate, at
-- what logins by certificate are answered by.
abbrev pub IsDamagedFor : Bytes → Bytes → Type 0
IsDamagedFor bytes message =
    (realm_said bytes ≡ Err Damaged)
    ⊎ ((realm : RealmParameters) × (realm_said bytes ≡ Ok realm)
    × (IsDamagedAccount bytes realm.name message ⊎ (AsksByCertificate message × IsWithout realm.pkinit)))

-- By this fault a file with these octets may give no reply to a message: a read of it fails so, or the octets are damaged for the message.
abbrev pub IsLack : Bytes → (ErrorKind → Type 0) → Bytes → LookupFault → Type 0
IsLack bytes fails message (Failed kind) = fails kind
IsLack bytes fails message Damaged = IsDamagedFor bytes message
IsLack bytes fails message Memory = Unit {0}

-- So it is, or the file's octets aren't known.
abbrev pub FailsReply : Option Bytes → (ErrorKind → Type 0) → Bytes → LookupFault → Type 0
FailsReply content fails message fault = (bytes : Bytes) → content ≡ Some bytes → IsLack bytes fails message fault
