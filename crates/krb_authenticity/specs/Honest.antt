-- Runs in which requests come to the realm and to the service as clients sent them, and replies to clients as these sent them. In these no
-- ciphertext is forged.
use Rattle.std.specs.Prelude.{◌≡◌, ◌⊎◌, List, [], ◌∷◌, Some}
use Rattle.picky_asn1.specs.Bytes.{Bytes}
use Rattle.krb_messages.specs.TicketGranting.{krbtgt_of}
use Rattle.krb_realm_accounts.specs.Account.{AccountRecord}
use Rattle.krb_realm_accounts.specs.Names.{AreComponents}
use Rattle.krb_kdc_exchanges.specs.ChosenKeys.{chosen}
use Rattle.krb_kdc_exchanges.specs.Rows.{PkinitRows}
use Rattle.krb_tickets.specs.Grant.{GrantRecord}
use Rattle.krb_tickets.specs.Parts.{ticket_of}
use Rattle.krb_constants.specs.KeyUsages.{key_usage}
use Rattle.krb_constants.specs.declared.key_usages.TheConstants.{TGS_REP_ENC_SESSION_KEY}
use Rattle.krb_crypto.specs.Keys.{KeyRecord}
use Rattle.krb_client.specs.Asked.{ApAskedRecord, TgsAskedRecord}
use Rattle.krb_client.specs.Client.{CredentialRecord}
use Rattle.krb_ap_requests.specs.Entry.{EntryRecord}
use Rattle.krb_authenticity.specs.Among.{IsAmong}
use Rattle.krb_authenticity.specs.Grants.{IsFirst, IsFurther, IsGranted}
use Rattle.krb_authenticity.specs.Parties.{AnswerRecord, ExchangeRecord, FirstRequest, FurtherRequest, IsAnswerSent, IsClient, IsFirstSent, IsFurtherSent, IsServiceSent, SentRecord, ServiceRequest, session_of}

-- the credential has a ticket that the realm granted in one of these exchanges, under this key, and its session key
pub record IsByGrant (rows : PkinitRows) (exchanges : List ExchangeRecord) (key : Bytes) (credential : CredentialRecord) : Type 0 where
  pub exchange : ExchangeRecord
  pub among : IsAmong exchange exchanges
  pub grant : GrantRecord
  pub account : AccountRecord
  pub granted : IsGranted rows exchange grant account
  pub sealed_for : account.key ≡ key
  pub ticket : credential.ticket ≡ ticket_of grant granted.replied.ticket_data
  pub session : credential.key ≡ grant.session

-- a client whom the realm knows by its key asked for a first ticket
pub record IsFirstHonest (sent : SentRecord) (exchange : ExchangeRecord) : Type 0 where
  pub request : FirstRequest
  pub among : IsAmong request sent.first
  pub is_sent : IsFirstSent request
  pub named : IsClient request.client
  pub service_named : AreComponents request.service
  pub bytes : exchange.request ≡ request.bytes
  pub account : AccountRecord
  pub found : exchange.call.look request.client.components ≡ Some account
  pub suite : account.suite ≡ request.key.suite
  pub key : account.key ≡ request.key.bytes

-- a client asked for a further ticket, by one that it was granted before, under the key of its kvno
pub record IsFurtherHonest (rows : PkinitRows) (before : List ExchangeRecord) (sent : SentRecord) (exchange : ExchangeRecord) : Type 0 where
  pub request : FurtherRequest
  pub among : IsAmong request sent.further
  pub is_sent : IsFurtherSent request
  pub service_named : AreComponents request.service
  pub bytes : exchange.request ≡ request.bytes
  pub granting : AccountRecord
  pub found : exchange.call.look (krbtgt_of exchange.call.realm) ≡ Some granting
  pub by : IsByGrant rows before (chosen request.credential.ticket.enc_part.0 granting).key request.credential

-- each exchange is one of these, the newest first
abbrev pub AreHonest : PkinitRows → SentRecord → List ExchangeRecord → Type 0
AreHonest rows sent [] = Unit {0}
AreHonest rows sent (exchange ∷ before) = (IsFirstHonest sent exchange ⊎ IsFurtherHonest rows before sent exchange) × AreHonest rows sent before

-- a client asked the service, by a ticket that it was granted for it
pub record IsServiceHonest (rows : PkinitRows) (exchanges : List ExchangeRecord) (sent : SentRecord) (entry : EntryRecord) (message : Bytes) : Type 0 where
  pub request : ServiceRequest
  pub among : IsAmong request sent.presented
  pub is_sent : IsServiceSent request
  pub bytes : message ≡ request.bytes
  pub by : IsByGrant rows exchanges entry.key request.credential

-- a client that has the reply key gets the reply of an AS exchange
pub record IsFirstReplyHonest (rows : PkinitRows) (exchanges : List ExchangeRecord) (under : KeyRecord) (message : Bytes) : Type 0 where
  pub exchange : ExchangeRecord
  pub among : IsAmong exchange exchanges
  pub grant : GrantRecord
  pub account : AccountRecord
  pub granted : IsGranted rows exchange grant account
  pub first : IsFirst rows exchange grant granted.under account
  pub bytes : message ≡ exchange.reply
  pub suite : granted.under.suite ≡ under.suite
  pub key : granted.under.key ≡ under.bytes

-- or of a TGS exchange, whose reply key is the session key
pub record IsFurtherReplyHonest (rows : PkinitRows) (exchanges : List ExchangeRecord) (asked : TgsAskedRecord) (message : Bytes) : Type 0 where
  pub exchange : ExchangeRecord
  pub among : IsAmong exchange exchanges
  pub grant : GrantRecord
  pub account : AccountRecord
  pub granted : IsGranted rows exchange grant account
  pub further : IsFurther exchange grant granted.under account
  pub bytes : message ≡ exchange.reply
  pub suite : granted.under.suite ≡ asked.suite
  pub key : granted.under.key ≡ asked.key
  pub usage : granted.under.usage ≡ key_usage TGS_REP_ENC_SESSION_KEY

-- or a service's AP-REP under the session key
pub record IsApReplyHonest (sent : SentRecord) (asked : ApAskedRecord) (message : Bytes) : Type 0 where
  pub answer : AnswerRecord
  pub among : IsAmong answer sent.answered
  pub is_sent : IsAnswerSent answer
  pub bytes : message ≡ answer.bytes
  pub suite : answer.presented.suite ≡ asked.suite
  pub key : session_of answer.presented ≡ asked.key
