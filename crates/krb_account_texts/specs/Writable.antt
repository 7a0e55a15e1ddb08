-- The lines that a text can have: each is read as it was written.
use Rattle.std.specs.Prelude.{◌≡◌, ◌==◌, ◌≤◌, ◌<◌, ◌+◌, ◌^◌, ◌⊎◌, ℕ, false, not, IsTrue, List, length, slice_index, Option, None, Some}
use Rattle.std.specs.List.{AllByRecursion, list_all}
use Rattle.hex.specs.Hex.{IsBytes}
use Rattle.picky_asn1.specs.Bytes.{Bytes}
use Rattle.krb_crypto.specs.Suites.{cipher_key_size}
use Rattle.krb_time.specs.declared.calendar.TheConstants.{EPOCH}
use Rattle.krb_realm_accounts.specs.Account.{AccountRecord, AreBefore}
use Rattle.krb_realm_accounts.specs.declared.limits.TheConstants.{FORMER_LIMIT}
use Rattle.krb_realm_accounts.specs.Names.{AreComponents, IsRealmName}
use Rattle.krb_realm_accounts.specs.Settings.{AreSettings, SettingsRecord, most_lifetime}
use Rattle.krb_messages.specs.NameReading.{is_ascii}
use Rattle.krb_account_texts.specs.Lines.{WrittenLine, comment, realm, account}
use Rattle.krb_account_texts.specs.Reading.{is_disabled, is_printed}

-- A comment begins with `#`, not with the mark of a disabled account, and has no line feed.
pub record IsComment (text : Bytes) : Type 0 where
  pub begins : slice_index text 0 ≡ 35
  pub unmarked : is_disabled text ≡ false
  pub line : IsTrue (list_all (λ octet. not (octet == 10)) text)

-- Logins by certificate are answered by one octet or more, if they are.
abbrev pub ArePkinitBytes : Option Bytes → Type 0
ArePkinitBytes None = Unit {0}
ArePkinitBytes (Some octets) = IsBytes octets × (1 ≤ length octets)

-- A realm has a printable name and settings in their ranges. The greatest renewable life is a year at most.
pub record IsRealm (name : Bytes) (settings : SettingsRecord) (pkinit : Option Bytes) : Type 0 where
  pub name_is : IsRealmName name
  pub printed : IsTrue (is_printed name)
  pub settings_are : AreSettings settings.skew settings.lifetime
  pub life_is : settings.policy.renewable_life ≤ most_lifetime
  pub pkinit_are : ArePkinitBytes pkinit

-- A salt's octets are below 128, if there is one.
abbrev pub IsSalt : Option Bytes → Type 0
IsSalt None = Unit {0}
IsSalt (Some salt) = IsTrue (is_ascii salt)

-- An account doesn't end, or in a second after 1970 that a number of 32 bits counts.
abbrev pub IsEnd : ℕ → Type 0
IsEnd ends = (ends ≡ 0) ⊎ ((EPOCH < ends) × (ends < EPOCH + 2 ^ 32))

-- An account has a principal's name, a key of its suite's length, a salt whose octets are below 128 or none, a kvno from 1 to 2^32 - 1,
-- keys before it whose kvnos fall, an end in the range of a text or none, and a greatest lifetime below 2^32 seconds.
pub record IsAccount (name : List Bytes) (own : AccountRecord) : Type 0 where
  pub name_is : AreComponents name
  pub key_size : length own.key ≡ cipher_key_size own.suite
  pub key_bytes : IsBytes own.key
  pub salt_is : IsSalt own.salt
  pub from_one : 1 ≤ own.kvno
  pub kvno_fits : own.kvno < 2 ^ 32
  pub before : AreBefore own.kvno own.former
  pub few : length own.former ≤ FORMER_LIMIT
  pub bytes : AllByRecursion (λ older. IsBytes older.key) own.former
  pub ends : IsEnd own.attributes.ends
  pub lifetime : own.attributes.lifetime < 2 ^ 32

abbrev pub IsWritable : WrittenLine → Type 0
IsWritable (comment text) = IsComment text
IsWritable (realm name settings guards pkinit) = IsRealm name settings pkinit
IsWritable (account name own is_disabled) = IsAccount name own

-- each line of the list can be written
abbrev pub AreWritable : List WrittenLine → Type 0
AreWritable = AllByRecursion IsWritable
