-- A realm: its name, its limits, what it trusts clients' certificates by, and a finite map from component lists to accounts.
use Rattle.std.specs.Prelude.{◌≡◌, nat_eq, Bool, true, not, ◌==◌, List, length, None, Some, Result, Ok, Err, if◌then◌else◌}
use Rattle.std.specs.Cmp.Lexicographic.{pointwise}
use Rattle.std.specs.FinMap as finite
use Rattle.krb_messages.specs.RandomBytes.{Random}
use Rattle.krb_time.specs.Units.{Micros}
use Rattle.picky_asn1.specs.Bytes.{Bytes}
use Rattle.krb_crypto.specs.declared.suite.CipherSuite.{CipherSuite}
use Rattle.krb_crypto.specs.Suites.{cipher_key_size}
use Rattle.krb_realm_accounts.specs.Account.{AccountRecord, one_key}
use Rattle.krb_realm_accounts.specs.Accounts.{AccountMap, Look, look_in}
use Rattle.krb_realm_accounts.specs.Accounts as map
use Rattle.krb_realm_accounts.specs.Names.{is_realm_name, are_components}
use Rattle.krb_realm_accounts.specs.Settings.{SettingsRecord}
use Rattle.krb_kdc_exchanges.specs.Call.{CallRecord}
use Rattle.krb_kdc_exchanges.specs.Before.{IsFree}
use Rattle.krb_kdc_exchanges.specs.Calls.{IsKeyed}
use Rattle.krb_messages.specs.TicketGranting.{krbtgt_of}
use Rattle.pkinit_validation.specs.Trust.{TrustRecord}
use Rattle.krb_memory_realms.specs.Settings.{SettingsState}
use Rattle.krb_realm_accounts.specs.declared.refusal.RealmRefusal.{RealmRefusal}
use Rattle.krb_realm_accounts.specs.declared.refusal.RealmRefusal.TheVariants.{BadName, BadKeyLength, Exists, KeptAccount, Unknown}

-- A realm: its name, the limits of its settings, its anchor and its own certificate, and its accounts.
pub record RealmState : Type 0 where
  pub name : Bytes
  pub settings : SettingsRecord
  pub trust : TrustRecord
  pub accounts : AccountMap

-- a call to the realm at a moment, with random bytes
abbrev pub call_to : RealmState → Micros → Random → CallRecord
call_to realm moment words = record {
  realm = realm.name;
  settings = realm.settings;
  look = look_in realm.accounts;
  moment = moment;
  words = words;
}

-- an account by a first key
abbrev pub first_key : CipherSuite → Bytes → AccountRecord
first_key suite key = one_key suite key 1 None

-- the accounts have that of the ticket-granting service of the realm of this name
abbrev pub has_krbtgt : Bytes → AccountMap → Bool
has_krbtgt name accounts = finite.contains_key accounts (krbtgt_of name)

-- what holds of each account of a realm: its key is one of its suite, and nobody sets an attribute for it
pub record IsOwn (account : AccountRecord) : Type 0 where
  pub keyed : IsKeyed account
  pub free : IsFree account

abbrev pub AreOwn : Look → Type 0
AreOwn look = (name : List Bytes) (account : AccountRecord) → look name ≡ Some account → IsOwn account

-- what holds of every realm: it has its ticket-granting service's account, and each account is as those of realms are
pub record IsRealm (name : Bytes) (accounts : AccountMap) : Type 0 where
  pub granting : has_krbtgt name accounts ≡ true
  pub own : AreOwn (look_in accounts)

-- whether a realm of this name is made with this key, in the order of refusals
abbrev pub making : Bytes → CipherSuite → Bytes → Result (Unit {0}) RealmRefusal
making name suite key =
    if not (is_realm_name name) then Err BadName
    else (if not (length key == cipher_key_size suite) then Err BadKeyLength else Ok tt)

-- the realm with its ticket-granting service's account alone
abbrev pub made : Bytes → CipherSuite → Bytes → SettingsState → RealmState
made name suite key settings = record {
  name = name;
  settings = settings.limits;
  trust = settings.trust;
  accounts = finite.insert finite.empty (krbtgt_of name) (first_key suite key);
}

-- whether an account is added by a key, in the order of refusals
abbrev pub adding : AccountMap → List Bytes → CipherSuite → Bytes → Result (Unit {0}) RealmRefusal
adding accounts name suite key =
    if not (are_components name) then Err BadName
    else (if not (length key == cipher_key_size suite) then Err BadKeyLength
    else (if finite.contains_key accounts name then Err Exists else Ok tt))

-- whether an account is added by a password, in the order of refusals
abbrev pub adding_by_password : AccountMap → List Bytes → Result (Unit {0}) RealmRefusal
adding_by_password accounts name =
    if not (are_components name) then Err BadName
    else (if finite.contains_key accounts name then Err Exists else Ok tt)

-- the name is that of the realm's ticket-granting service
abbrev pub is_krbtgt : Bytes → List Bytes → Bool
is_krbtgt realm name = pointwise (pointwise nat_eq) name (krbtgt_of realm)

-- whether an account is taken away, in the order of refusals; that of the ticket-granting service is kept
abbrev pub removing : RealmState → List Bytes → Result (Unit {0}) RealmRefusal
removing realm name =
    if not (are_components name) then Err BadName
    else (if not (finite.contains_key realm.accounts name) then Err Unknown
    else (if is_krbtgt realm.name name then Err KeptAccount else Ok tt))

-- what a name's account becomes by a key, in the order of refusals
abbrev pub changing : AccountMap → List Bytes → CipherSuite → Bytes → Result AccountRecord RealmRefusal
changing accounts name suite key = if not (are_components name) then Err BadName else map.changing accounts name suite key
