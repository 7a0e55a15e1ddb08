-- The few accounts that were looked up, beside all that there are.
use Rattle.std.specs.Prelude.{◌≡◌, List, Some}
use Rattle.picky_asn1.specs.Bytes.{Bytes}
use Rattle.krb_realm_accounts.specs.Account.{AccountRecord}
use Rattle.krb_realm_accounts.specs.Accounts.{AccountMap, Look, look_in}

-- Each of the few is the name's own account.
abbrev pub AreOf : Look → AccountMap → Type 0
AreOf all few = (name : List Bytes) (account : AccountRecord) → look_in few name ≡ Some account → all name ≡ Some account

-- The few have the name's account, or it has none.
abbrev pub Knows : Look → AccountMap → List Bytes → Type 0
Knows all few name = look_in few name ≡ all name

-- The name's account was looked up, and what was known stays known.
pub record IsFetched (all : Look) (name : List Bytes) (old new : AccountMap) : Type 0 where
  pub own : AreOf all old → AreOf all new
  pub known : AreOf all old → Knows all new name
  pub kept : (other : List Bytes) → Knows all old other → Knows all new other
