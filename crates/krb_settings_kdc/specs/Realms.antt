-- The realm that a settings file's words make: with its own name, key and settings, and each account added in the file's order.
use Rattle.std.specs.Prelude.{ℕ, suc, nat_le, ◌&&◌, if◌then◌else◌, List, [], ◌∷◌, None, Result, Ok, Err}
use Rattle.std.specs.FinMap as finite
use Rattle.krb_crypto.specs.declared.suite.CipherSuite.{CipherSuite}
use Rattle.krb_time.specs.Units.{Seconds}
use Rattle.krb_realm_accounts.specs.Account.{AccountRecord}
use Rattle.krb_realm_accounts.specs.Accounts.{AccountMap}
use Rattle.krb_realm_accounts.specs.Passwords.{password_account, password_salt}
use Rattle.krb_realm_accounts.specs.Settings.{most_lifetime, most_skew}
use Rattle.krb_realm_accounts.specs.declared.refusal.RealmRefusal.{RealmRefusal}
use Rattle.krb_realm_accounts.specs.declared.refusal.RealmRefusal.TheVariants.{BadSetting}
use Rattle.krb_memory_realms.specs.Realm.{RealmState, making, made, adding, adding_by_password, first_key}
use Rattle.krb_memory_realms.specs.Settings.{SettingsState, settings_by}
use Rattle.krb_settings.specs.Steps.{◌>>=◌}
use Rattle.krb_settings.specs.Written.{WrittenAccount, WrittenRealm, WrittenSecret, password, key}
use Rattle.krb_settings_kdc.specs.declared.fault.RealmFault.{RealmFault}
use Rattle.krb_settings_kdc.specs.declared.fault.RealmFault.TheVariants.{Account, Realm}

-- skew and lifetime, where they are in their ranges; a file has no anchor and no certificate
abbrev pub settings_of : Seconds → Seconds → Result SettingsState RealmFault
settings_of skew lifetime =
    -- The clock skew is at most 86,400 seconds, and the lifetime from 1 to 31,536,000. Test: `skew is 100000`, `lifetime is 0`.
    if nat_le skew most_skew && nat_le 1 lifetime && nat_le lifetime most_lifetime then Ok (settings_by skew lifetime None None)
    else Err (Realm BadSetting)

-- the result of a step on the realm itself, whose refusal is a fault of the realm
abbrev pub in_realm : {A : Type 0} → Result A RealmRefusal → Result A RealmFault
in_realm (Ok x) = Ok x
in_realm (Err refusal) = Err (Realm refusal)

-- the result of a step on the account with this number, whose refusal is a fault of that account
abbrev pub in_account : {A : Type 0} → ℕ → Result A RealmRefusal → Result A RealmFault
in_account number (Ok x) = Ok x
in_account number (Err refusal) = Err (Account number refusal)

-- whether an account is added, in the realm's order of refusals
abbrev pub adding_secret : AccountMap → List (List ℕ) → CipherSuite → WrittenSecret → Result (Unit {0}) RealmRefusal
-- A name has one account at most. Test: `name ["a"] is account 1's, on line 7`.
-- `krbtgt` with the realm's name has its account from the start (RFC 4120, section 7.3). Test: `name ["krbtgt", "R"] is the ticket-granting
-- service's, whose key is the realm's`.
adding_secret accounts name suite (password _) = adding_by_password accounts name
-- A key has as many octets as the keys of its suite. Test: `key has 62 hexadecimal digits`.
adding_secret accounts name suite (key bytes) = adding accounts name suite bytes

-- whether an account of a file is added to the realm
abbrev pub adding_account : RealmState → WrittenAccount → Result (Unit {0}) RealmRefusal
adding_account realm account = adding_secret realm.accounts account.name account.suite account.secret

-- the account that a name, suite and secret of a file make in the realm of this name
abbrev pub secret_account : List ℕ → List (List ℕ) → CipherSuite → WrittenSecret → AccountRecord
secret_account realm name suite (password bytes) = password_account suite bytes (password_salt realm name)
secret_account realm name suite (key bytes) = first_key suite bytes

-- the realm with an account of a file added
abbrev pub with_account : RealmState → WrittenAccount → RealmState
with_account realm account = record realm {
  accounts = finite.insert realm.accounts account.name (secret_account realm.name account.name account.suite account.secret);
}

-- accounts, of which the first has this number, are added up to the first that is refused
abbrev pub with_accounts : ℕ → RealmState → List WrittenAccount → Result RealmState RealmFault
with_accounts number realm [] = Ok realm
with_accounts number realm (account ∷ rest) =
    in_account number (adding_account realm account) >>= (λ _. with_accounts (suc number) (with_account realm account) rest)

-- The realm that a settings file writes, or the first refusal: of its settings, of its name and key, of its accounts in their order.
abbrev pub realm_of_settings : WrittenRealm → Result RealmState RealmFault
realm_of_settings written = settings_of written.skew written.lifetime >>= (λ settings.
    in_realm (making written.name written.suite written.key) >>= (λ _.
    with_accounts 1 (made written.name written.suite written.key settings) written.accounts))
