-- Who holds a key by name, where no two accounts share one.
use Rattle.std.specs.Prelude.{◌≡◌, false, List, Some}
use Rattle.picky_asn1.specs.Bytes.{Bytes}
use Rattle.krb_time.specs.Skew.{is_far}
use Rattle.krb_messages.specs.Names.{components}
use Rattle.krb_messages.specs.declared.data_types.principal_name.PrincipalName.{PrincipalName}
use Rattle.krb_realm_accounts.specs.Account.{AccountRecord}
use Rattle.krb_realm_accounts.specs.Accounts.{Look}
use Rattle.krb_kdc_exchanges.specs.Call.{CallRecord, skew_of}
use Rattle.krb_authenticity.specs.Among.{IsAmong}
use Rattle.krb_authenticity.specs.Parties.{ExchangeRecord, FirstRequest, IsFirstSent, SentRecord}

-- no two names have accounts with one key
abbrev pub AreKeysApart : Look → Type 0
AreKeysApart look = (name other : List Bytes) (account found : AccountRecord) → look name ≡ Some account → look other ≡ Some found → account.key ≡ found.key → name ≡ other

-- a client of this realm asks by the key of its account
pub record IsByOwnKey (call : CallRecord) (request : FirstRequest) : Type 0 where
  pub realm : request.client.realm ≡ call.realm
  pub account : AccountRecord
  pub found : call.look request.client.components ≡ Some account
  pub key : account.key ≡ request.key.bytes

-- so does each client that asked for a first ticket
abbrev pub AreByOwnKeys : CallRecord → SentRecord → Type 0
AreByOwnKeys call sent = (request : FirstRequest) → IsAmong request sent.first → IsByOwnKey call request

-- the client of this realm and name itself asked for a first ticket, at a moment near now
pub record IsAskedByName (sent : SentRecord) (exchange : ExchangeRecord) (realm : Bytes) (client : PrincipalName) : Type 0 where
  pub request : FirstRequest
  pub among : IsAmong request sent.first
  pub is_sent : IsFirstSent request
  pub in_realm : request.client.realm ≡ realm
  pub named : request.client.components ≡ components client
  pub near : is_far (skew_of exchange.call) exchange.call.moment request.moment ≡ false
