-- The premises on a call to a realm: a moment that KerberosTime has, enough random bytes, and keys of their suites' length.
use Rattle.std.specs.Prelude.{◌≡◌, List, length, Some}
use Rattle.krb_messages.specs.RandomBytes.{AreEnoughForReply}
use Rattle.picky_asn1.specs.Bytes.{Bytes}
use Rattle.block_ciphers.specs.Bytes.{IsBytes}
use Rattle.krb_time.specs.Moment.{IsMoment}
use Rattle.krb_crypto.specs.Suites.{cipher_key_size}
use Rattle.krb_realm_accounts.specs.Account.{AccountRecord}
use Rattle.krb_realm_accounts.specs.Accounts.{Look}
use Rattle.krb_kdc_exchanges.specs.Call.{CallRecord}

-- the account's key has the length of its suite, and is bytes
pub record IsKeyed (account : AccountRecord) : Type 0 where
  pub sized : length account.key ≡ cipher_key_size account.suite
  pub bytes : IsBytes account.key

-- each account that is looked up has a key of its suite
abbrev pub AreKeyed : Look → Type 0
AreKeyed look = (name : List Bytes) (account : AccountRecord) → look name ≡ Some account → IsKeyed account

-- the call has a moment of the years 0 to 9999, 128 random bytes, and accounts whose keys are of their suites
pub record IsCall (call : CallRecord) : Type 0 where
  pub in_time : IsMoment call.moment
  pub enough : AreEnoughForReply call.words
  pub bytes : IsBytes call.words
  pub keyed : AreKeyed call.look
