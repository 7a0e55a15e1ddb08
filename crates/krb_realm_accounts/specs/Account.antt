-- What a realm knows of a principal: a name and a secret key (RFC 4120, section 1.5), how the key came about, the keys before it, and what
-- the account may do.
use Rattle.std.specs.Prelude.{ℕ, ◌≡◌, ◌<◌, ◌≤◌, ◌^◌, ◌&&◌, ◌||◌, nat_lt, Bool, true, false, List, [], ◌∷◌, length, Option, take}
use Rattle.picky_asn1.specs.Bytes.{Bytes}
use Rattle.krb_crypto.specs.Suites.{cipher_key_size}
use Rattle.krb_crypto.specs.declared.suite.CipherSuite.{CipherSuite}
use Rattle.krb_realm_accounts.specs.declared.attributes.Attributes.{Attributes}
use Rattle.krb_realm_accounts.specs.declared.attributes.TheConstants.{NO_ATTRIBUTES}
use Rattle.krb_realm_accounts.specs.declared.limits.TheConstants.{FORMER_LIMIT}

-- a key's suite, its octets and its kvno, which counts from 1
pub record AccountKeyRecord : Type 0 where
  pub suite : CipherSuite
  pub key : Bytes
  pub kvno : ℕ

-- the suite, the key's octets, its kvno, which counts from 1, the salt of a password's key, the keys before it, the newest first, and the
-- attributes
pub record AccountRecord : Type 0 where
  pub suite : CipherSuite
  pub key : Bytes
  pub kvno : ℕ
  pub salt : Option Bytes
  pub former : List AccountKeyRecord
  pub attributes : Attributes

-- an account with this one key, for which nobody sets an attribute
abbrev pub one_key : CipherSuite → Bytes → ℕ → Option Bytes → AccountRecord
one_key suite key kvno salt = record { suite = suite; key = key; kvno = kvno; salt = salt; former = []; attributes = NO_ATTRIBUTES }

-- an attribute is set
abbrev pub is_set : Attributes → Bool
is_set attributes = nat_lt 0 attributes.ends || (nat_lt 0 attributes.lifetime || (attributes.is_off || (attributes.must_change || attributes.is_no_service)))

-- the attributes stay where an account is given a key, but its password needn't be changed any more
abbrev pub rekeyed_attributes : Attributes → Attributes
rekeyed_attributes attributes = record attributes { must_change = false }

-- the account's own key
abbrev pub newest : AccountRecord → AccountKeyRecord
newest account = record { suite = account.suite; key = account.key; kvno = account.kvno }

-- all its keys, the newest first
abbrev pub keys_of : AccountRecord → List AccountKeyRecord
keys_of account = newest account ∷ account.former

-- the key's kvno counts from 1, and is less than this one, and the key has its suite's length
pub record IsOlder (kvno : ℕ) (own : AccountKeyRecord) : Type 0 where
  pub counts : 1 ≤ own.kvno
  pub less : own.kvno < kvno
  pub sized : length own.key ≡ cipher_key_size own.suite

-- each key is older than the one after it, and the newest of them has a lower kvno than this
abbrev pub AreBefore : ℕ → List AccountKeyRecord → Type 0
AreBefore kvno [] = Unit {0}
AreBefore kvno (own ∷ keys) = IsOlder kvno own × AreBefore own.kvno keys

-- the kvnos fall from this one on, from key to key
abbrev pub are_falling : ℕ → List AccountKeyRecord → Bool
are_falling kvno [] = true
are_falling kvno (own ∷ keys) = nat_lt own.kvno kvno && are_falling own.kvno keys

-- the kvno counts from 1, and the keys before are older one after another, and no more than are kept
pub record IsKept (kvno : ℕ) (former : List AccountKeyRecord) : Type 0 where
  pub counts : 1 ≤ kvno
  pub before : AreBefore kvno former
  pub few : length former ≤ FORMER_LIMIT

-- what holds of every account: keys have their suites' lengths, kvnos have 32 bits, count from 1 and fall from key to key, and there are no
-- more keys than are kept
pub record IsWhole (account : AccountRecord) : Type 0 where
  pub sized : length account.key ≡ cipher_key_size account.suite
  pub counts : 1 ≤ account.kvno
  pub fits : account.kvno < 2 ^ 32
  pub before : AreBefore account.kvno account.former
  pub few : length account.former ≤ FORMER_LIMIT
  pub ends : account.attributes.ends < 2 ^ 64
  pub lifetime : account.attributes.lifetime < 2 ^ 32

-- the keys that stay where a further one is made: these, but no more than there is room for
abbrev pub kept : AccountRecord → List AccountKeyRecord
kept account = take FORMER_LIMIT (keys_of account)
