-- What follows for a client that takes a reply, where no ciphertext was forged.
use Rattle.std.specs.Prelude.{◌≡◌, ℕ, List, Ok, pos}
use Rattle.picky_asn1.specs.Bytes.{Bytes}
use Rattle.krb_crypto.specs.Keys.{KeyRecord}
use Rattle.krb_messages.specs.Messages.{IsAsRep}
use Rattle.krb_messages.specs.declared.messages.kdc_rep.KdcRep.{KdcRep}
use Rattle.krb_realm_accounts.specs.Account.{AccountRecord}
use Rattle.krb_kdc_exchanges.specs.Rows.{PkinitRows}
use Rattle.krb_ap_requests.specs.Entry.{EntryRecord}
use Rattle.krb_ap_requests.specs.Presents.{Choice, Presents}
use Rattle.krb_ap_requests.specs.declared.presented.Presented.{Presented}
use Rattle.krb_tickets.specs.Grant.{GrantRecord}
use Rattle.krb_tickets.specs.Parts.{flags_of}
use Rattle.krb_client.specs.Asked.{ApAskedRecord, AsAskedRecord}
use Rattle.krb_client.specs.Client.{ClientRecord, CredentialRecord}
use Rattle.krb_client.specs.Means.{MeansRecord}
use Rattle.krb_authenticity.specs.Among.{IsAmong}
use Rattle.krb_authenticity.specs.Ciphertexts.{IsRequestUnforged, IsUnforged, OpensFirstReply}
use Rattle.krb_authenticity.specs.Grants.{IsFirst, IsFurther, IsGranted}
use Rattle.krb_authenticity.specs.Parties.{AnswerRecord, ExchangeRecord, IsAnswerSent, SentRecord}

-- the credential has session key, service, times and flags of the grant. Of its ticket nothing follows: it isn't in the reply's part
pub record IsOfGrantOf (grant : GrantRecord) (credential : CredentialRecord) : Type 0 where
  pub own_suite : credential.suite ≡ grant.suite
  pub own_key : credential.key ≡ grant.session
  pub own_realm : credential.realm ≡ grant.realm
  pub own_service : credential.service ≡ grant.service
  pub own_authtime : credential.authtime ≡ grant.auth_time
  pub own_starttime : credential.starttime ≡ grant.starttime
  pub own_endtime : credential.endtime ≡ grant.endtime
  pub own_flags : credential.flags ≡ flags_of grant.flags

-- the realm granted this in one of these exchanges, under this reply key, to a request with this nonce
pub record IsRealmsReply (rows : PkinitRows) (exchanges : List ExchangeRecord) (key : Bytes) (nonce : ℕ) (credential : CredentialRecord) : Type 0 where
  pub exchange : ExchangeRecord
  pub among : IsAmong exchange exchanges
  pub grant : GrantRecord
  pub account : AccountRecord
  pub granted : IsGranted rows exchange grant account
  pub under : granted.under.key ≡ key
  pub answers : grant.nonce ≡ pos nonce
  pub told : IsOfGrantOf grant credential

-- it was an AS exchange, or a TGS exchange
abbrev pub IsByFirst : (rows : PkinitRows) (exchanges : List ExchangeRecord) (key : Bytes) (nonce : ℕ) (credential : CredentialRecord) → Type 0
IsByFirst rows exchanges key nonce credential =
    (it : IsRealmsReply rows exchanges key nonce credential) × IsFirst rows it.exchange it.grant it.granted.under it.account

abbrev pub IsByFurther : (rows : PkinitRows) (exchanges : List ExchangeRecord) (key : Bytes) (nonce : ℕ) (credential : CredentialRecord) → Type 0
IsByFurther rows exchanges key nonce credential =
    (it : IsRealmsReply rows exchanges key nonce credential) × IsFurther it.exchange it.grant it.granted.under it.account

-- no ciphertext was forged that the client opens of the reply to its AS request, under the key that its means give, which is of these keys
abbrev pub IsFirstReplyUnforged : PkinitRows → List Bytes → List ExchangeRecord → SentRecord → ClientRecord → MeansRecord → AsAskedRecord → Bytes → Type 0
IsFirstReplyUnforged rows keys exchanges sent client means asked message =
    (reply : KdcRep) (key : KeyRecord) → IsAsRep message reply → (means.reply_key client asked reply).gives (Ok key)
    → IsUnforged rows keys exchanges sent (OpensFirstReply key message) × IsAmong key.bytes keys

-- a service that opened the ticket admitted a request with this session key and this time, and sent an AP-REP to it
pub record IsServicesReply (sent : SentRecord) (asked : ApAskedRecord) : Type 0 where
  pub answer : AnswerRecord
  pub among : IsAmong answer sent.answered
  pub is_sent : IsAnswerSent answer
  pub session : answer.admission.session.key_value.0 ≡ asked.key
  pub at_time : answer.presented.time ≡ asked.time

-- ---- which service it was

-- a service opened the ticket of this request under the key of this entry, and this was presented to it
pub record IsOpenedBy (entry : EntryRecord) (message : Bytes) (presented : Presented) : Type 0 where
  pub choice : Choice
  pub presents : Presents entry.key choice message
  pub is_part : presented.part ≡ choice.part

-- each service that sent an AP-REP had opened a request in which no ciphertext was forged
abbrev pub AreAnswersOpened : PkinitRows → List Bytes → List ExchangeRecord → SentRecord → Type 0
AreAnswersOpened rows keys exchanges sent =
    (answer : AnswerRecord) → IsAmong answer sent.answered
    → (entry : EntryRecord) × (message : Bytes) × IsOpenedBy entry message answer.presented × IsRequestUnforged rows keys exchanges sent entry message

-- no session key was granted under the keys of two services
abbrev pub AreSessionsApart : PkinitRows → List ExchangeRecord → Type 0
AreSessionsApart rows exchanges =
    (one other : ExchangeRecord) → IsAmong one exchanges → IsAmong other exchanges → (grant theirs : GrantRecord) (account found : AccountRecord)
    → IsGranted rows one grant account → IsGranted rows other theirs found → grant.session ≡ theirs.session → account.key ≡ found.key

-- the service that sent this answer had opened the request's ticket under this key
pub record IsAnsweredUnder (key : Bytes) (answer : AnswerRecord) : Type 0 where
  pub entry : EntryRecord
  pub message : Bytes
  pub opened : IsOpenedBy entry message answer.presented
  pub keyed : key ≡ entry.key
