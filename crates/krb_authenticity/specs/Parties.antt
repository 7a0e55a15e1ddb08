-- What the parties of a run did: the realm had its exchanges, and the clients sent their requests (RFC 4120, section 3).
use Rattle.std.specs.Prelude.{◌≡◌, ◌%◌, Bool, List, Some, pos}
use Rattle.asn1_der.specs.Tree.{IsWhole}
use Rattle.asn1_leaves.specs.GeneralizedTime.{seconds_of}
use Rattle.asn1_leaves.specs.declared.date.GeneralizedTime.{GeneralizedTime}
use Rattle.picky_asn1.specs.Bytes.{Bytes}
use Rattle.krb_time.specs.SecondOf.{IsSecondOf}
use Rattle.krb_time.specs.Times.{moment_at}
use Rattle.krb_time.specs.Units.{Micros}
use Rattle.krb_constants.specs.KeyUsages.{key_usage}
use Rattle.krb_constants.specs.declared.key_usages.TheConstants.{AP_REQ_AUTHENTICATOR}
use Rattle.krb_crypto.specs.Suites.{cipher_confounder_size}
use Rattle.krb_realm_accounts.specs.Names.{AreComponents, IsRealmName}
use Rattle.krb_crypto.specs.Keys.{KeyRecord}
use Rattle.krb_crypto.specs.declared.suite.CipherSuite.{CipherSuite}
use Rattle.krb_messages.specs.RandomBytes.{Random, ap_reply_confounder, authenticator_confounder}
use Rattle.krb_messages.specs.Names.{components}
use Rattle.krb_messages.specs.declared.data_types.authenticator.AuthenticatorInner.{AuthenticatorInner}
use Rattle.krb_messages.specs.declared.data_types.enc_ap_rep_part.EncApRepPartInner.{EncApRepPartInner}
use Rattle.krb_messages.specs.Messages.{authenticator_tree}
use Rattle.krb_ap_requests.specs.declared.presented.Presented.{Presented}
use Rattle.krb_service.specs.Admission.{AdmissionRecord, admission_of}
use Rattle.krb_service.specs.ApReply.{IsReplyOf, ap_rep_part_with}
use Rattle.krb_service.specs.declared.reply.ReplyFields.{ReplyFields}
use Rattle.krb_kdc_exchanges.specs.Call.{CallRecord}
use Rattle.krb_client.specs.AsRequest.{AsksAsWith}
use Rattle.krb_client.specs.Authenticators.{IsApRequest}
use Rattle.krb_client.specs.Client.{ClientRecord, CredentialRecord}
use Rattle.krb_client.specs.EncryptedTimestamps.{by_key}
use Rattle.krb_client.specs.TgsRequest.{AsksTgsWith}
use Rattle.krb_client.specs.declared.options.TicketOptions.{TicketOptions}

-- an exchange with the realm: the call, the request's bytes and the reply's
pub record ExchangeRecord : Type 0 where
  pub call : CallRecord
  pub request : Bytes
  pub reply : Bytes

-- a client's request for a first ticket, by a key that it shares with the realm; it lists these suites, and asks with these options
pub record FirstRequest : Type 0 where
  pub client : ClientRecord
  pub suites : List CipherSuite
  pub options : TicketOptions
  pub key : KeyRecord
  pub service : List Bytes
  pub till : GeneralizedTime
  pub moment : Micros
  pub words : Random
  pub bytes : Bytes

-- a client's request for a further ticket, by one that it has; it lists these suites, and asks with these options. It is for a service
-- ticket, or to renew or forward the one that it has
pub record FurtherRequest : Type 0 where
  pub client : ClientRecord
  pub suites : List CipherSuite
  pub options : TicketOptions
  pub credential : CredentialRecord
  pub service : List Bytes
  pub till : GeneralizedTime
  pub moment : Micros
  pub words : Random
  pub bytes : Bytes

-- a client's request to a service: an AP-REQ by a ticket that it has, with its authenticator of the moment
pub record ServiceRequest : Type 0 where
  pub client : ClientRecord
  pub credential : CredentialRecord
  pub mutual_required : Bool
  pub authenticator : AuthenticatorInner
  pub confounder : Bytes
  pub moment : Micros
  pub bytes : Bytes

-- a service's AP-REP to a request that it admitted: what was presented to it, the fields of the reply, random bytes, the admission, and the
-- reply's bytes
pub record AnswerRecord : Type 0 where
  pub presented : Presented
  pub fields : ReplyFields
  pub words : Random
  pub admission : AdmissionRecord
  pub bytes : Bytes

-- the requests that clients sent, and the AP-REPs that services sent
pub record SentRecord : Type 0 where
  pub first : List FirstRequest
  pub further : List FurtherRequest
  pub presented : List ServiceRequest
  pub answered : List AnswerRecord

-- the client has a name
pub record IsClient (client : ClientRecord) : Type 0 where
  pub realm : IsRealmName client.realm
  pub name : AreComponents client.components

-- what a client sent is its request
abbrev pub IsFirstSent : FirstRequest → Type 0
IsFirstSent request = AsksAsWith request.client request.suites request.options (by_key request.key.suite request.key.bytes) request.service request.till request.moment request.words request.bytes

pub record IsFurtherSent (request : FurtherRequest) : Type 0 where
  pub named : IsClient request.client
  pub asks : AsksTgsWith request.client request.suites request.options request.credential request.service request.till request.moment request.words request.bytes

-- the authenticator has the client's realm, name and moment, and has an encoding
pub record IsOfClient (client : ClientRecord) (moment : Micros) (authenticator : AuthenticatorInner) : Type 0 where
  pub realm : authenticator.crealm.0 ≡ client.realm
  pub name : components authenticator.cname.0 ≡ client.components
  pub second : IsSecondOf moment authenticator.ctime.0.0
  pub microseconds : authenticator.cusec.0 ≡ pos (moment % 1000000)
  pub whole : IsWhole (authenticator_tree authenticator)

pub record IsServiceSent (request : ServiceRequest) : Type 0 where
  pub of_client : IsOfClient request.client request.moment request.authenticator
  pub presents : IsApRequest request.credential (key_usage AP_REQ_AUTHENTICATOR) request.mutual_required request.authenticator request.confounder request.bytes

-- what `Client::ap_request` writes, as such a request
abbrev pub service_request_of : ClientRecord → CredentialRecord → Bool → Micros → Random → Bytes → AuthenticatorInner → ServiceRequest
service_request_of client credential mutual_required moment words bytes authenticator = record {
  client = client;
  credential = credential;
  mutual_required = mutual_required;
  authenticator = authenticator;
  confounder = authenticator_confounder (cipher_confounder_size credential.suite) words;
  moment = moment;
  bytes = bytes;
}

-- the session key of what was presented, and the encrypted part of the AP-REP
abbrev pub session_of : Presented → Bytes
session_of presented = presented.part.key.0.key_value.0

abbrev pub content_of : AnswerRecord → EncApRepPartInner
content_of answer = ap_rep_part_with answer.fields answer.presented.suite answer.words answer.presented.authenticator

-- what a service sent is the reply to what it admitted, under the session key
pub record IsAnswerSent (answer : AnswerRecord) : Type 0 where
  pub admits : answer.admission ≡ admission_of answer.presented (Some answer.bytes)
  pub ctime : moment_at (seconds_of answer.presented.authenticator.ctime.0.0) answer.presented.authenticator.cusec.0 ≡ Some answer.presented.time
  pub reply : IsReplyOf answer.presented.suite (session_of answer.presented) (ap_reply_confounder (cipher_confounder_size answer.presented.suite) answer.words) (content_of answer) answer.bytes

-- what a service replied to what was presented to it, as such an answer
abbrev pub answer_with : Presented → ReplyFields → Random → AdmissionRecord → Bytes → AnswerRecord
answer_with presented fields words admission bytes = record { presented = presented; fields = fields; words = words; admission = admission; bytes = bytes }
