-- What a settings file writes of a realm and its accounts.
use Rattle.std.specs.Prelude.{ℕ, List, map}
use Rattle.krb_crypto.specs.declared.suite.CipherSuite.{CipherSuite}
use Rattle.krb_settings.specs.declared.settings.Secret.{Secret}
use Rattle.krb_settings.specs.declared.settings.Secret.TheVariants.{Password, Key}
use Rattle.krb_settings.specs.declared.settings.AccountSettings.{AccountSettings}
use Rattle.krb_settings.specs.declared.settings.RealmSettings.{RealmSettings}

-- what an account's key is made of
pub data WrittenSecret : Type 0 where
  password : List ℕ → WrittenSecret
  key : List ℕ → WrittenSecret

pub record WrittenAccount : Type 0 where
  pub name : List (List ℕ)
  pub suite : CipherSuite
  pub secret : WrittenSecret

-- What a settings file writes: the realm's name, its suite and key, the clock skew and the greatest lifetime in seconds, and the accounts.
pub record WrittenRealm : Type 0 where
  pub name : List ℕ
  pub suite : CipherSuite
  pub key : List ℕ
  pub skew : ℕ
  pub lifetime : ℕ
  pub accounts : List WrittenAccount

-- The secret that the value of the program holds.
abbrev pub shown_secret : Secret → WrittenSecret
shown_secret (Password bytes) = password bytes.items
shown_secret (Key bytes) = key bytes.items

-- The account that the value of the program holds.
abbrev pub shown_account : AccountSettings → WrittenAccount
shown_account a = record { name = map (λ part. part.items) a.name.items; suite = a.suite; secret = shown_secret a.secret }

-- The realm that the value of the program holds.
abbrev pub shown_realm : RealmSettings → WrittenRealm
shown_realm r = record {
  name = r.name.items;
  suite = r.suite;
  key = r.key.items;
  skew = r.skew;
  lifetime = r.lifetime;
  accounts = map shown_account r.accounts.items;
}
