-- The ciphertexts that parties of a run open, and those that parties made. No one else forged one.
use Rattle.std.specs.Prelude.{◌≡◌, ◌⊎◌, ℕ, List, [], ◌∷◌, Some}
use Rattle.picky_asn1.specs.Bytes.{Bytes}
use Rattle.krb_realm_accounts.specs.Account.{AccountKeyRecord, AccountRecord, keys_of}
use Rattle.krb_constants.specs.KeyUsages.{key_usage}
use Rattle.krb_constants.specs.declared.key_usages.TheConstants.{AP_REP_ENC, AP_REQ_AUTHENTICATOR, AS_REP_ENC, AS_REQ_TIMESTAMP, TGS_REP_ENC_SESSION_KEY, TGS_REQ_PA_DATA_AP_REQ_AUTHENTICATOR, TICKET_REP}
use Rattle.krb_constants.specs.declared.padata_types.TheConstants.{PA_ENC_TIMESTAMP}
use Rattle.krb_crypto.specs.Keys.{KeyRecord}
use Rattle.krb_crypto.specs.declared.suite.CipherSuite.{CipherSuite}
use Rattle.krb_messages.specs.Names.{components}
use Rattle.krb_messages.specs.TicketGranting.{krbtgt_of}
use Rattle.krb_messages.specs.declared.data_types.authenticator.AuthenticatorInner.{AuthenticatorInner}
use Rattle.krb_messages.specs.declared.data_types.enc_ticket_part.EncTicketPartInner.{EncTicketPartInner}
use Rattle.krb_messages.specs.declared.data_types.pa_enc_timestamp.PaEncTsEnc.{PaEncTsEnc}
use Rattle.krb_messages.specs.declared.data_types.principal_name.PrincipalName.{PrincipalName}
use Rattle.krb_messages.specs.Messages.{IsApRep, IsAsRep, IsAsReq, IsTgsRep, IsTgsReq}
use Rattle.krb_messages.specs.declared.data_types.enc_ap_rep_part.EncApRepPartInner.{EncApRepPartInner}
use Rattle.krb_messages.specs.declared.messages.ap_rep.ApRepInner.{ApRepInner}
use Rattle.krb_messages.specs.declared.messages.enc_kdc_rep_part.EncKdcRepPart.{EncKdcRepPart}
use Rattle.krb_messages.specs.declared.messages.kdc_rep.KdcRep.{KdcRep}
use Rattle.krb_messages.specs.declared.messages.ap_req.ApReqInner.{ApReqInner}
use Rattle.krb_messages.specs.declared.messages.kdc_req.KdcReq.{KdcReq}
use Rattle.krb_kdc_exchanges.specs.Rows.{PkinitRows}
use Rattle.krb_kdc_exchanges.specs.EncryptedTimestamps.{IsEncryptedTimestamp}
use Rattle.krb_tickets.specs.Grant.{GrantRecord}
use Rattle.krb_ap_requests.specs.ApTable.{enc_part_in}
use Rattle.krb_ap_requests.specs.Entry.{EntryRecord}
use Rattle.krb_ap_requests.specs.Messages.{IsAuthenticator}
use Rattle.krb_ap_requests.specs.Presents.{Choice, Presents}
use Rattle.krb_kdc_exchanges.specs.Requests.{body_of, client_of}
use Rattle.krb_messages.specs.Padata.{first_of, padata_in}
use Rattle.krb_kdc_exchanges.specs.ByTicket.{IsByTicket}
use Rattle.krb_kdc_exchanges.specs.ChosenKeys.{chosen}
use Rattle.krb_client.specs.ApReply.{IsApPart}
use Rattle.krb_client.specs.AsReply.{IsAsPart}
use Rattle.krb_client.specs.Asked.{ApAskedRecord, TgsAskedRecord}
use Rattle.krb_client.specs.Taking.{IsTgsPart}
use Rattle.krb_authenticity.specs.Among.{IsAmong}
use Rattle.krb_authenticity.specs.Grants.{IsGranted}
use Rattle.krb_authenticity.specs.Parties.{AnswerRecord, ExchangeRecord, FirstRequest, FurtherRequest, IsAnswerSent, IsFirstSent, IsFurtherSent, IsServiceSent, SentRecord, ServiceRequest, session_of}

-- a ciphertext, with the suite, the key and the key usage that open it
pub record CiphertextRecord : Type 0 where
  pub suite : CipherSuite
  pub key : Bytes
  pub usage : ℕ
  pub cipher : Bytes

-- as a ticket's part, as an encrypted timestamp, and as an authenticator to the ticket-granting service or to another one (RFC 4120,
-- section 7.5.1)
abbrev pub ticket_under : CipherSuite → Bytes → Bytes → CiphertextRecord
ticket_under suite key cipher = record { suite = suite; key = key; usage = key_usage TICKET_REP; cipher = cipher }

abbrev pub timestamp_under : CipherSuite → Bytes → Bytes → CiphertextRecord
timestamp_under suite key cipher = record { suite = suite; key = key; usage = key_usage AS_REQ_TIMESTAMP; cipher = cipher }

abbrev pub granting_under : CipherSuite → Bytes → Bytes → CiphertextRecord
granting_under suite key cipher = record { suite = suite; key = key; usage = key_usage TGS_REQ_PA_DATA_AP_REQ_AUTHENTICATOR; cipher = cipher }

abbrev pub authenticator_under : CipherSuite → Bytes → Bytes → CiphertextRecord
authenticator_under suite key cipher = record { suite = suite; key = key; usage = key_usage AP_REQ_AUTHENTICATOR; cipher = cipher }

-- as the part of a reply to an AS or a TGS request, and as that of an AP-REP
abbrev pub first_reply_under : CipherSuite → Bytes → Bytes → CiphertextRecord
first_reply_under suite key cipher = record { suite = suite; key = key; usage = key_usage AS_REP_ENC; cipher = cipher }

abbrev pub further_reply_under : CipherSuite → Bytes → Bytes → CiphertextRecord
further_reply_under suite key cipher = record { suite = suite; key = key; usage = key_usage TGS_REP_ENC_SESSION_KEY; cipher = cipher }

abbrev pub ap_reply_under : CipherSuite → Bytes → Bytes → CiphertextRecord
ap_reply_under suite key cipher = record { suite = suite; key = key; usage = key_usage AP_REP_ENC; cipher = cipher }

-- as a ticket's part under a key of an account
abbrev pub ticket_under_key : AccountKeyRecord → Bytes → CiphertextRecord
ticket_under_key own cipher = ticket_under own.suite own.key cipher

-- ---- what parties open

-- the encrypted timestamp of an AS-REQ, under the key of the client's account
pub record OpensTimestamp (exchange : ExchangeRecord) (ciphertext : CiphertextRecord) : Type 0 where
  pub asked : KdcReq
  pub read : IsAsReq exchange.request asked
  pub name : PrincipalName
  pub named : client_of (body_of asked) ≡ Some name
  pub account : AccountRecord
  pub found : exchange.call.look (components name) ≡ Some account
  pub value : Bytes
  pub first : first_of PA_ENC_TIMESTAMP (padata_in asked) ≡ Some value
  pub timestamp : PaEncTsEnc
  pub opens : IsEncryptedTimestamp account value timestamp
  pub is : ciphertext ≡ timestamp_under account.suite account.key opens.sealed.cipher.0

-- the ticket of a TGS-REQ, under the key of the ticket-granting service that has its kvno
pub record OpensTicket (exchange : ExchangeRecord) (ciphertext : CiphertextRecord) : Type 0 where
  pub asked : KdcReq
  pub read : IsTgsReq exchange.request asked
  pub ap_req : ApReqInner
  pub part : EncTicketPartInner
  pub by : IsByTicket exchange.call asked ap_req part
  pub is : ciphertext ≡ ticket_under_key (chosen (enc_part_in ap_req) by.granting) (enc_part_in ap_req).cipher.0

-- and its authenticator, under the session key of that ticket
pub record OpensAuthenticator (exchange : ExchangeRecord) (ciphertext : CiphertextRecord) : Type 0 where
  pub asked : KdcReq
  pub read : IsTgsReq exchange.request asked
  pub ap_req : ApReqInner
  pub part : EncTicketPartInner
  pub by : IsByTicket exchange.call asked ap_req part
  pub suite : CipherSuite
  pub authenticator : AuthenticatorInner
  pub opens : IsAuthenticator suite part.key.0.key_value.0 (key_usage TGS_REQ_PA_DATA_AP_REQ_AUTHENTICATOR) ap_req.authenticator.0 authenticator
  pub is : ciphertext ≡ granting_under suite part.key.0.key_value.0 ap_req.authenticator.0.cipher.0

-- what the realm opens of an exchange's request
abbrev pub RealmOpens : ExchangeRecord → CiphertextRecord → Type 0
RealmOpens exchange ciphertext = OpensTimestamp exchange ciphertext ⊎ OpensTicket exchange ciphertext ⊎ OpensAuthenticator exchange ciphertext

-- what a service opens of a request: the ticket under its own key, and the authenticator under the ticket's session key
abbrev pub ServiceOpens : EntryRecord → Bytes → CiphertextRecord → Type 0
ServiceOpens entry message ciphertext = (choice : Choice) × (by : Presents entry.key choice message)
    × ((ciphertext ≡ ticket_under by.part.suite entry.key by.part_cipher)
    ⊎ (ciphertext ≡ authenticator_under by.authenticator.suite choice.part.key.0.key_value.0 by.cipher))

-- what a client opens of the reply to its AS request, under the reply key: a part with either tag (RFC 4120, section 5.4.2)
pub record OpensFirstReply (under : KeyRecord) (message : Bytes) (ciphertext : CiphertextRecord) : Type 0 where
  pub reply : KdcRep
  pub read : IsAsRep message reply
  pub part : EncKdcRepPart
  pub opens : IsAsPart under.suite under.bytes reply.enc_part.0 part ⊎ IsTgsPart under.suite under.bytes (key_usage AS_REP_ENC) reply.enc_part.0 part
  pub is : ciphertext ≡ first_reply_under under.suite under.bytes reply.enc_part.0.cipher.0

-- of the reply to its TGS request, under the session key by which it asked
pub record OpensFurtherReply (asked : TgsAskedRecord) (message : Bytes) (ciphertext : CiphertextRecord) : Type 0 where
  pub reply : KdcRep
  pub read : IsTgsRep message reply
  pub part : EncKdcRepPart
  pub opens : IsTgsPart asked.suite asked.key (key_usage TGS_REP_ENC_SESSION_KEY) reply.enc_part.0 part
  pub is : ciphertext ≡ further_reply_under asked.suite asked.key reply.enc_part.0.cipher.0

-- and of an AP-REP, under the session key
pub record OpensApReply (asked : ApAskedRecord) (message : Bytes) (ciphertext : CiphertextRecord) : Type 0 where
  pub reply : ApRepInner
  pub read : IsApRep message reply
  pub part : EncApRepPartInner
  pub opens : IsApPart asked reply.enc_part.0 part
  pub is : ciphertext ≡ ap_reply_under asked.suite asked.key reply.enc_part.0.cipher.0

-- ---- what parties made

-- the ticket that the realm granted in the exchange
pub record IsTicketOf (rows : PkinitRows) (exchange : ExchangeRecord) (ciphertext : CiphertextRecord) : Type 0 where
  pub grant : GrantRecord
  pub service : AccountRecord
  pub granted : IsGranted rows exchange grant service
  pub is : ciphertext ≡ ticket_under service.suite service.key granted.replied.ticket_data.cipher.0

-- the encrypted timestamp or the authenticator of a client's request
pub record IsTimestampOf (request : FirstRequest) (ciphertext : CiphertextRecord) : Type 0 where
  pub sent : IsFirstSent request
  pub is : ciphertext ≡ timestamp_under request.key.suite request.key.bytes sent.shown.encrypted_timestamp.cipher.0

pub record IsTgsAuthenticatorOf (request : FurtherRequest) (ciphertext : CiphertextRecord) : Type 0 where
  pub sent : IsFurtherSent request
  pub is : ciphertext ≡ granting_under request.credential.suite request.credential.key sent.asks.authenticates.presents.part.cipher.0

pub record IsApAuthenticatorOf (request : ServiceRequest) (ciphertext : CiphertextRecord) : Type 0 where
  pub sent : IsServiceSent request
  pub is : ciphertext ≡ authenticator_under request.credential.suite request.credential.key sent.presents.part.cipher.0

-- the reply's own part, which the realm made in the exchange
pub record IsReplyPartOf (rows : PkinitRows) (exchange : ExchangeRecord) (ciphertext : CiphertextRecord) : Type 0 where
  pub grant : GrantRecord
  pub service : AccountRecord
  pub granted : IsGranted rows exchange grant service
  pub is : ciphertext ≡ record { suite = granted.under.suite; key = granted.under.key; usage = granted.under.usage; cipher = granted.replied.reply_data.cipher.0 }

-- the part of a service's AP-REP
pub record IsApReplyOf (answer : AnswerRecord) (ciphertext : CiphertextRecord) : Type 0 where
  pub sent : IsAnswerSent answer
  pub is : ciphertext ≡ ap_reply_under answer.presented.suite (session_of answer.presented) sent.reply.part.cipher.0

-- the realm made it in one of these exchanges, a client in a request that it sent, or a service in an AP-REP
abbrev pub IsMade : PkinitRows → List ExchangeRecord → SentRecord → CiphertextRecord → Type 0
IsMade rows exchanges sent ciphertext =
    ((exchange : ExchangeRecord) × IsAmong exchange exchanges × IsTicketOf rows exchange ciphertext)
    ⊎ ((request : FirstRequest) × IsAmong request sent.first × IsTimestampOf request ciphertext)
    ⊎ ((request : FurtherRequest) × IsAmong request sent.further × IsTgsAuthenticatorOf request ciphertext)
    ⊎ ((request : ServiceRequest) × IsAmong request sent.presented × IsApAuthenticatorOf request ciphertext)
    ⊎ ((exchange : ExchangeRecord) × IsAmong exchange exchanges × IsReplyPartOf rows exchange ciphertext)
    ⊎ ((answer : AnswerRecord) × IsAmong answer sent.answered × IsApReplyOf answer ciphertext)

-- ---- the premise

-- what a party opens under one of these keys, the realm, a client or a service made under that key, and no one else
abbrev pub IsUnforged : PkinitRows → List Bytes → List ExchangeRecord → SentRecord → (CiphertextRecord → Type 0) → Type 0
IsUnforged rows keys exchanges sent Opens = (ciphertext : CiphertextRecord) → Opens ciphertext → IsAmong ciphertext.key keys → IsMade rows exchanges sent ciphertext

-- so it is in each exchange of the realm, the newest of which is the first: a ticket that it opens was granted before
abbrev pub AreUnforged : PkinitRows → List Bytes → SentRecord → List ExchangeRecord → Type 0
AreUnforged rows keys sent [] = Unit {0}
AreUnforged rows keys sent (exchange ∷ before) = IsUnforged rows keys before sent (RealmOpens exchange) × AreUnforged rows keys sent before

-- each key that the ticket-granting service has in an exchange is one of these
abbrev pub IsGrantingKept : List Bytes → List ExchangeRecord → Type 0
IsGrantingKept keys exchanges =
    (exchange : ExchangeRecord) → IsAmong exchange exchanges → (granting : AccountRecord)
    → exchange.call.look (krbtgt_of exchange.call.realm) ≡ Some granting → (own : AccountKeyRecord) → IsAmong own (keys_of granting) → IsAmong own.key keys

-- no ciphertext was forged in the realm's exchanges, and each key of its ticket-granting service is one of these
pub record IsRealmUnforged (rows : PkinitRows) (keys : List Bytes) (exchanges : List ExchangeRecord) (sent : SentRecord) : Type 0 where
  pub opens : AreUnforged rows keys sent exchanges
  pub granting_kept : IsGrantingKept keys exchanges

-- none was forged in a request to the service of this entry, whose key is one of these
pub record IsRequestUnforged (rows : PkinitRows) (keys : List Bytes) (exchanges : List ExchangeRecord) (sent : SentRecord) (entry : EntryRecord) (message : Bytes) : Type 0 where
  pub opens : IsUnforged rows keys exchanges sent (ServiceOpens entry message)
  pub kept : IsAmong entry.key keys
