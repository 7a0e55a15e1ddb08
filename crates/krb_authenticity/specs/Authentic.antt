-- What follows where no ciphertext was forged.
use Rattle.std.specs.Prelude.{◌≡◌, ◌⊎◌, false, List, ◌∷◌, Some, Ok}
use Rattle.asn1_leaves.specs.GeneralizedTime.{seconds_of}
use Rattle.asn1_leaves.specs.declared.date.GeneralizedTime.{GeneralizedTime}
use Rattle.picky_asn1.specs.Bytes.{Bytes}
use Rattle.krb_time.specs.Skew.{is_far}
use Rattle.krb_realm_accounts.specs.Account.{AccountRecord}
use Rattle.krb_constants.specs.declared.padata_types.TheConstants.{PA_PK_AS_REQ}
use Rattle.krb_tickets.specs.Sealing.{encryption_key}
use Rattle.krb_messages.specs.Names.{components}
use Rattle.krb_messages.specs.declared.data_types.enc_ticket_part.EncTicketPartInner.{EncTicketPartInner}
use Rattle.krb_messages.specs.declared.data_types.principal_name.PrincipalName.{PrincipalName}
use Rattle.krb_messages.specs.declared.messages.kdc_req.KdcReq.{KdcReq}
use Rattle.krb_messages.specs.declared.messages.kdc_req_body.KdcReqBody.{KdcReqBody}
use Rattle.krb_kdc_exchanges.specs.PkinitCalls.{AgreedRecord}
use Rattle.krb_kdc_exchanges.specs.Rows.{PkinitRows}
use Rattle.krb_tickets.specs.Grant.{GrantRecord}
use Rattle.krb_tickets.specs.Parts.{flags_of, ticket_part}
use Rattle.krb_tickets.specs.ReplyKeys.{ReplyKeyRecord}
use Rattle.krb_kdc_exchanges.specs.Times.{start_of}
use Rattle.krb_ap_requests.specs.Entry.{EntryRecord}
use Rattle.krb_kdc_exchanges.specs.Call.{pkinit_call, skew_of}
use Rattle.krb_kdc_exchanges.specs.Requests.{body_of}
use Rattle.krb_messages.specs.Padata.{first_of, padata_in}
use Rattle.krb_client.specs.Requests.{nonce_of}
use Rattle.krb_client.specs.TgsRequest.{checksum_over, further_body_with}
use Rattle.krb_messages.specs.Bodies.{body_bytes}
use Rattle.krb_kdc_exchanges.specs.Grants.{Principals}
use Rattle.krb_service.specs.Admission.{AdmissionRecord, checksum_of, seq_number_of, subkey_of}
use Rattle.krb_service.specs.Pair.{PairRecord, is_among}
use Rattle.krb_authenticity.specs.Among.{IsAmong}
use Rattle.krb_authenticity.specs.Grants.{IsFirst, IsGranted}
use Rattle.krb_authenticity.specs.Parties.{ExchangeRecord, FirstRequest, FurtherRequest, IsFirstSent, IsFurtherSent, IsServiceSent, SentRecord, ServiceRequest}

-- the admission has client, session key, times and flags of the grant
pub record IsOfGrant (grant : GrantRecord) (admission : AdmissionRecord) : Type 0 where
  pub realm : admission.realm ≡ grant.realm
  pub client : admission.client ≡ grant.client
  pub session : admission.session ≡ encryption_key grant.suite grant.session
  pub authtime : admission.authtime ≡ grant.auth_time
  pub starttime : admission.starttime ≡ grant.starttime
  pub endtime : admission.endtime ≡ grant.endtime
  pub flags : admission.flags ≡ flags_of grant.flags

-- the realm granted the admission's ticket in one of these exchanges, under the service's key
pub record IsTicketGranted (rows : PkinitRows) (exchanges : List ExchangeRecord) (entry : EntryRecord) (admission : AdmissionRecord) : Type 0 where
  pub exchange : ExchangeRecord
  pub among : IsAmong exchange exchanges
  pub grant : GrantRecord
  pub account : AccountRecord
  pub granted : IsGranted rows exchange grant account
  pub key : account.key ≡ entry.key
  pub told : IsOfGrant grant admission

-- the realm granted a ticket with this part in one of these exchanges, under this key
pub record IsPartGranted (rows : PkinitRows) (exchanges : List ExchangeRecord) (key : Bytes) (part : EncTicketPartInner) : Type 0 where
  pub exchange : ExchangeRecord
  pub among : IsAmong exchange exchanges
  pub grant : GrantRecord
  pub account : AccountRecord
  pub granted : IsGranted rows exchange grant account
  pub sealed_under : account.key ≡ key
  pub is_part : part ≡ ticket_part grant

-- a client that holds this key sent an encrypted timestamp, in a request for a first ticket at a moment near now
abbrev pub IsTimedBy : SentRecord → ExchangeRecord → Bytes → Type 0
IsTimedBy sent exchange key =
    (request : FirstRequest) × IsAmong request sent.first × IsFirstSent request
    × (key ≡ request.key.bytes) × (is_far (skew_of exchange.call) exchange.call.moment request.moment ≡ false)

-- how the realm authenticated the client: its rows accept the certificate; or the client's account has a key under which an encrypted
-- timestamp near now opened. If this key is one of these, a client that holds it sent that in a request
abbrev pub IsShown : PkinitRows → List Bytes → SentRecord → ExchangeRecord → Principals → KdcReq → Type 0
IsShown rows keys sent exchange principals asked =
    ((padata : Bytes) × (agreed : AgreedRecord) × (first_of PA_PK_AS_REQ (padata_in asked) ≡ Some padata)
    × (rows.judges (pkinit_call exchange.call (components principals.client_name) (body_of asked)) padata).gives (Ok agreed))
    ⊎ (IsAmong principals.client.key keys → IsTimedBy sent exchange principals.client.key)

-- in one of these exchanges the realm of this name authenticated this client, at this authtime
pub record WasAuthenticated (rows : PkinitRows) (keys : List Bytes) (exchanges : List ExchangeRecord) (sent : SentRecord) (realm : Bytes) (client : PrincipalName) (authtime : GeneralizedTime) : Type 0 where
  pub exchange : ExchangeRecord
  pub among : IsAmong exchange exchanges
  pub grant : GrantRecord
  pub under : ReplyKeyRecord
  pub service : AccountRecord
  pub first : IsFirst rows exchange grant under service
  pub in_realm : realm ≡ exchange.call.realm
  pub named : client ≡ first.principals.client_name
  pub since : seconds_of authtime ≡ start_of exchange.call.moment
  pub shown : IsShown rows keys sent exchange first.principals first.asked

-- the client and the time of a request to a service
abbrev pub pair_of_request : ServiceRequest → PairRecord
pair_of_request request = record { realm = request.client.realm; components = request.client.components; time = request.moment }

-- a client made the request that was admitted: the admission is under its name, with its session key, and with the subkey, the checksum and
-- the sequence number that it chose
pub record IsOfRequest (request : ServiceRequest) (admission : AdmissionRecord) : Type 0 where
  pub sent : IsServiceSent request
  pub realm : admission.realm ≡ request.client.realm
  pub client : components admission.client ≡ request.client.components
  pub session : admission.session.key_value.0 ≡ request.credential.key
  pub subkey : admission.subkey ≡ subkey_of request.authenticator
  pub checksum : admission.checksum ≡ checksum_of request.authenticator
  pub seq_number : admission.seq_number ≡ seq_number_of request.authenticator

-- and it is the first request of this client and time that the service admits
pub record IsAskedFirst (sent : SentRecord) (admitted : List PairRecord) (admission : AdmissionRecord) (after : List PairRecord) : Type 0 where
  pub request : ServiceRequest
  pub among : IsAmong request sent.presented
  pub of_request : IsOfRequest request admission
  pub new : is_among (pair_of_request request) admitted ≡ false
  pub remembered : after ≡ pair_of_request request ∷ admitted

-- whom the service admits the realm had authenticated, and the client itself made the request
pub record IsAuthentic (rows : PkinitRows) (keys : List Bytes) (exchanges : List ExchangeRecord) (sent : SentRecord) (entry : EntryRecord) (admitted : List PairRecord) (admission : AdmissionRecord) (after : List PairRecord) : Type 0 where
  pub ticket : IsTicketGranted rows exchanges entry admission
  pub client : WasAuthenticated rows keys exchanges sent admission.realm admission.client admission.authtime
  pub asked : IsAmong admission.session.key_value.0 keys → IsAskedFirst sent admitted admission after

-- the body of a request for a further ticket
abbrev pub body_sent : FurtherRequest → KdcReqBody
body_sent request = further_body_with request.client request.suites request.options request.service request.till (nonce_of request.words)

-- a client asked for the further ticket that an exchange grants, at a moment near now; the body that the realm read has the checksum of the
-- body that the client wrote
pub record IsFurtherAsked (sent : SentRecord) (exchange : ExchangeRecord) (grant : GrantRecord) (asked : KdcReq) : Type 0 where
  pub request : FurtherRequest
  pub among : IsAmong request sent.further
  pub is_sent : IsFurtherSent request
  pub realm : grant.realm ≡ request.client.realm
  pub client : components grant.client ≡ request.client.components
  pub near : is_far (skew_of exchange.call) exchange.call.moment request.moment ≡ false
  pub covers : (checksum_over request.credential (body_bytes (body_of asked))).checksum.0
      ≡ (checksum_over request.credential (body_bytes (body_sent request))).checksum.0
