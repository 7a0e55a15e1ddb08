-- Accounts with their names, and their records.
use Rattle.std.specs.Prelude.{◌≡◌, ◌⊎◌, true, false, ◌^◌, ◌≤◌, nat_eq, List, [], ◌∷◌, ◌++◌, None, Some, if◌then◌else◌}
use Rattle.std.specs.List.{Any}
use Rattle.std.specs.Cmp.Lexicographic.{pointwise}
use Rattle.picky_asn1.specs.Bytes.{Bytes}
use Rattle.krb_realm_accounts.specs.Account.{AccountRecord}
use Rattle.krb_realm_accounts.specs.Accounts.{Look}
use Rattle.krb_realm_accounts.specs.Names.{AreComponents, are_components}
use Rattle.krb_realm_accounts.specs.Packed.{fit, packed}
use Rattle.cdb.specs.Writing.{IsUnsound, database_size}
use Rattle.cdb.specs.declared.records.Record.{Record}
use Rattle.cdb.specs.declared.writing.WriteFault.{WriteFault}
use Rattle.cdb.specs.declared.writing.WriteFault.TheVariants.{Large, Memory, Unsound}
use Rattle.krb_realm_files.specs.AccountRecords.{account_bytes, account_in}
use Rattle.krb_realm_files.specs.Files.{realm_key}
use Rattle.krb_realm_files.specs.RealmRecords.{is_recorded, realm_bytes, realm_in}
use Rattle.krb_realm_files.specs.declared.format.TheConstants.{RECORD_ROOM}
use Rattle.krb_realm_files.specs.declared.realm_parameters.RealmParameters.{RealmParameters}
use Rattle.krb_realm_files.specs.declared.writing.NamedAccount.{NamedAccount}

-- The first account of a name. Names are the same if and only if their blocks are (`unpacked-packed` of krb_realm_accounts).
abbrev pub look_among : List NamedAccount → Look
look_among [] name = None
look_among (one ∷ accounts) name = if pointwise nat_eq (packed one.name.items) (packed name) then Some one.account else look_among accounts name

-- Each account's name is one of a principal.
abbrev pub AreNamed : List NamedAccount → Type 0
AreNamed [] = Unit {0}
AreNamed (one ∷ accounts) = AreComponents one.name.items × AreNamed accounts

-- The record of an account of a name: the name is one of a principal, its block is the key, and the data are read as the account.
pub record IsRecordOf (name : List Bytes) (account : AccountRecord) (r : Record) : Type 0 where
  pub named : AreComponents name
  pub fits : fit name ≡ true
  pub key : r.key.items ≡ packed name
  pub content : r.content.items ≡ account_bytes account
  pub again : account_in (account_bytes account) ≡ Some account

-- One record for each account, and then those that follow.
abbrev pub AreRecords : List NamedAccount → List Record → Type 0
AreRecords [] [] = Unit {0}
AreRecords (one ∷ accounts) (r ∷ records) = IsRecordOf one.name.items one.account r × AreRecords accounts records
AreRecords [] (r ∷ records) = ⊥
AreRecords (one ∷ accounts) [] = ⊥

-- The record of the realm: its data are read as the realm.
pub record IsRealmRecord (realm : RealmParameters) (r : Record) : Type 0 where
  pub key : r.key.items ≡ realm_key
  pub content : r.content.items ≡ realm_bytes realm
  pub again : realm_in (realm_bytes realm) ≡ Some realm

-- These records and the realm's are none of which a database is written: one is too long, or two neighbours clash.
abbrev pub AreUnsound : RealmParameters → List Record → Type 0
AreUnsound realm records = (own : Record) × IsRealmRecord realm own × IsUnsound RECORD_ROOM (records ++ own ∷ [])

-- A database of these records and the realm's would have 2^32 octets or more.
abbrev pub AreLarge : RealmParameters → List Record → Type 0
AreLarge realm records = (own : Record) × IsRealmRecord realm own × (2 ^ 32 ≤ database_size (records ++ own ∷ []))

-- Why no file is written of a realm and the records of accounts.
abbrev pub IsRecordsFault : RealmParameters → List Record → WriteFault → Type 0
IsRecordsFault realm records Large = AreLarge realm records
IsRecordsFault realm records Unsound = (is_recorded realm ≡ false) ⊎ AreUnsound realm records
IsRecordsFault realm records Memory = Unit {0}

-- The account's name is none of a principal.
abbrev pub IsUnnamed : NamedAccount → Type 0
IsUnnamed one = are_components one.name.items ≡ false

-- Why no file is written of a realm and accounts.
abbrev pub IsAccountsFault : RealmParameters → List NamedAccount → WriteFault → Type 0
IsAccountsFault realm accounts Large = (records : List Record) × AreRecords accounts records × AreLarge realm records
IsAccountsFault realm accounts Unsound = Any IsUnnamed accounts
    ⊎ ((is_recorded realm ≡ false) ⊎ ((records : List Record) × AreRecords accounts records × AreUnsound realm records))
IsAccountsFault realm accounts Memory = Unit {0}
