-- What a file's octets say of the realm and of its accounts.
--
-- An account's record is under its name's block (`packed` of krb_realm_accounts). The realm's record is under the one octet 255. That is no
-- name's block: the octets of a block are those of the name's characters, each plus one, and zeros, and a character is below 128.
use Rattle.std.specs.Prelude.{◌≡◌, List, [], ◌∷◌, ℕ, take, Option, None, Some, Result, Ok, Err, if◌then◌else◌}
use Rattle.std.specs.declared.io.ErrorKind.{ErrorKind}
use Rattle.picky_asn1.specs.Bytes.{Bytes}
use Rattle.krb_realm_accounts.specs.Account.{AccountRecord}
use Rattle.krb_realm_accounts.specs.Accounts.{Look}
use Rattle.krb_realm_accounts.specs.Packed.{fit, packed}
use Rattle.cdb.specs.Find.{looked_up}
use Rattle.cdb.specs.declared.fault.Fault.{Fault}
use Rattle.cdb.specs.declared.fault.Fault.TheVariants as database
use Rattle.krb_kdc.specs.declared.fault.LookupFault.{LookupFault}
use Rattle.krb_kdc.specs.declared.fault.LookupFault.TheVariants.{Damaged, Failed}
use Rattle.krb_realm_files.specs.declared.format.TheConstants.{REALM_KEY, RECORD_ROOM}
use Rattle.krb_realm_files.specs.declared.realm_parameters.RealmParameters.{RealmParameters}
use Rattle.krb_realm_files.specs.AccountRecords.{account_in}
use Rattle.krb_realm_files.specs.RealmRecords.{realm_in}
use Rattle.krb_realm_files.specs.Reading.{IsFaultAt, or_damaged}

-- The fault of a look-up that the database refuses so. Data that are longer than any record are damaged.
abbrev pub fault_of : Fault → LookupFault
fault_of (database.Failed kind) = Failed kind
fault_of database.Damaged = Damaged
fault_of database.Long = Damaged

-- The account of a record that was found. If the record is no account's, the file is damaged.
abbrev pub account_or_none : Option AccountRecord → Result (Option AccountRecord) LookupFault
account_or_none None = Err Damaged
account_or_none (Some account) = Ok (Some account)

-- The account whose record was found, none if no record was found, or the file's fault.
abbrev pub account_found : Result (Option (List ℕ)) Fault → Result (Option AccountRecord) LookupFault
account_found (Ok (Some octets)) = account_or_none (account_in octets)
account_found (Ok None) = Ok None
account_found (Err fault) = Err (fault_of fault)

-- The account of the record that is the first `n` octets of a buffer, if a record was found.
abbrev pub account_front : List ℕ → Option ℕ → Result (Option AccountRecord) LookupFault
account_front buffer None = Ok None
account_front buffer (Some n) = account_or_none (account_in (take n buffer))

-- The account of a name, under whose block the file has its record. A name that no principal of a realm has is none.
unfoldable pub account_said : List ℕ → List Bytes → Result (Option AccountRecord) LookupFault
account_said bytes name = if fit name then account_found (looked_up RECORD_ROOM bytes (packed name)) else Ok None

-- The realm whose record was found, or the file is damaged. A file with no record of the realm is damaged too.
abbrev pub realm_found : Result (Option (List ℕ)) Fault → Result RealmParameters LookupFault
realm_found (Ok (Some octets)) = or_damaged (realm_in octets)
realm_found (Ok None) = Err Damaged
realm_found (Err fault) = Err (fault_of fault)

-- The realm of the record that is the first `n` octets of a buffer. Without a record the file is damaged.
abbrev pub realm_front : List ℕ → Option ℕ → Result RealmParameters LookupFault
realm_front buffer None = Err Damaged
realm_front buffer (Some n) = or_damaged (realm_in (take n buffer))

-- The key of the realm's record.
abbrev pub realm_key : List ℕ
realm_key = REALM_KEY ∷ []

-- The realm's name and settings.
unfoldable pub realm_said : List ℕ → Result RealmParameters LookupFault
realm_said bytes = realm_found (looked_up RECORD_ROOM bytes realm_key)

-- These may be all accounts of a file: each is what the file's octets say of its name, unless they are damaged there.
abbrev pub IsLookOf : List ℕ → Look → Type 0
IsLookOf bytes all = (name : List Bytes) (account : Option AccountRecord) → account_said bytes name ≡ Ok account → all name ≡ account

-- The octets of a file are known, and these may be all its accounts.
abbrev pub Holds : Option (List ℕ) → Look → Type 0
Holds content all = (bytes : List ℕ) × (content ≡ Some bytes) × IsLookOf bytes all

-- By this fault the account of a name may fail: a read of the file fails so, or the octets are damaged at that name. Or they aren't known.
abbrev pub FailsAccount : Option (List ℕ) → (ErrorKind → Type 0) → List Bytes → LookupFault → Type 0
FailsAccount content fails name fault = (bytes : List ℕ) → content ≡ Some bytes → IsFaultAt fails (account_said bytes name) fault

-- By this fault the realm's record may fail in the same way.
abbrev pub FailsRealm : Option (List ℕ) → (ErrorKind → Type 0) → LookupFault → Type 0
FailsRealm content fails fault = (bytes : List ℕ) → content ≡ Some bytes → IsFaultAt fails (realm_said bytes) fault

-- The account that the octets say, or none where they are damaged.
abbrev pub or_none : Result (Option AccountRecord) LookupFault → Option AccountRecord
or_none (Ok account) = account
or_none (Err fault) = None

-- The accounts of a file, with none where its octets are damaged.
unfoldable pub look_of : List ℕ → Look
look_of bytes name = or_none (account_said bytes name)
