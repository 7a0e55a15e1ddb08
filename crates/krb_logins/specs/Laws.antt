-- What holds of honest logins, step by step, over the definitions alone: of a suite's cipher they use that what is sealed
-- opens to one value, and that keys have their length.
use Rattle.std.specs.Prelude.{◌≡◌, ◌<◌, ◌^◌, false, true, ◌∷◌, length, Option, Some, Result, Ok}
use Rattle.picky_asn1.specs.Bytes.{Bytes}
use Rattle.block_ciphers.specs.Bytes.{IsBytes}
use Rattle.krb_messages.specs.Names.{components}
use Rattle.krb_tickets.specs.Sealing.{encryption_key}
use Rattle.krb_kdc_exchanges.specs.Rows.{PkinitRows}
use Rattle.krb_tickets.specs.Parts.{session_key_of}
use Rattle.krb_tickets.specs.ReplyKeys.{ReplyKeyRecord, tgs_reply_key}
use Rattle.krb_tickets.specs.Granted.{IsTicketReply}
use Rattle.decision_tables.specs.Some.{HasSome}
use Rattle.krb_kdc_exchanges.specs.Calls.{AreKeyed}
use Rattle.krb_messages.specs.TicketGranting.{krbtgt_of}
use Rattle.krb_kdc_exchanges.specs.declared.span.Span.{Span}
use Rattle.krb_kdc_exchanges.specs.Replies.{Replies}
use Rattle.krb_service.specs.Admission.{AdmissionRecord}
use Rattle.krb_client.specs.ApReply.{TakesApReply}
use Rattle.krb_client.specs.ApRequest.{AsksAp, ap_asked}
use Rattle.krb_client.specs.AsReply.{TakesAsReply}
use Rattle.krb_client.specs.AsRequest.{AsksAs}
use Rattle.krb_client.specs.Client.{ClientRecord, CredentialRecord}
use Rattle.krb_client.specs.Means.{MeansRecord}
use Rattle.krb_client.specs.Taking.{Taken}
use Rattle.krb_client.specs.TgsReply.{TakesTgsReply}
use Rattle.krb_client.specs.TgsRequest.{AsksTgs, tgs_asked}
use Rattle.krb_client.specs.declared.refusal.TakeRefusal.{TakeRefusal}
use Rattle.krb_service.specs.RememberingService.{Outcome, remembering}
use Rattle.krb_service.specs.Service.{ServiceRecord}
use Rattle.krb_logins.specs.Authenticated.{IsAgreedKey, IsAuthenticated, first_asked}
use Rattle.krb_logins.specs.Held.{IsFirstSpan, IsFurtherSpan, IsHeld, first_grant, further_grant}
use Rattle.krb_logins.specs.Honest.{AreEnough, AreParties, AreUnlimited, IsGranting, IsHonestLogin, clock_of, login_pair}
use Rattle.krb_logins.specs.Parties.{LoginRecord, RealmRecord, RememberedRecord, call_at}
use Rattle.krb_logins.specs.Steps.{reply_bytes}

-- an honest login of parties as they are made, to a realm that has its ticket-granting service, whose accounts have keys, and which
-- judges PA-PK-AS-REQ by these rows; nobody sets an attribute for the accounts, and the client authenticates itself by its means
pub record IsMet (client : ClientRecord) (means : MeansRecord) (realm : RealmRecord) (rows : PkinitRows) (service : ServiceRecord) (before : RememberedRecord) (login : LoginRecord) : Type 0 where
  pub parties : AreParties client service
  pub enough : AreEnough login
  pub granting : IsGranting realm
  pub keyed : AreKeyed realm.look
  pub unlimited : AreUnlimited client service realm
  pub honest : IsHonestLogin client realm service before login
  pub authenticated : IsAuthenticated client means realm rows honest.client.account login

-- the random bytes of a call to a realm and its request are bytes, as many as a slice can hold
pub record AreBytes (words request : Bytes) : Type 0 where
  pub bytes : IsBytes words
  pub asked : IsBytes request
  pub few : length request < 2 ^ 64

module _ (client : ClientRecord) (means : MeansRecord) (realm : RealmRecord) (rows : PkinitRows) (service : ServiceRecord) (before : RememberedRecord) (login : LoginRecord)
    (met : IsMet client means realm rows service before login) where
  -- the realm has a reply to the client's request, and grants the first ticket that the client asks for, under a key that both agree on
  unfoldable pub IsFirstGranted : Type 0
  IsFirstGranted = (request : Bytes)
      → AsksAs client means (krbtgt_of client.realm) login.till login.client_as login.words_as request
      → (AreBytes login.realm_words_as request → HasSome (Replies (call_at realm login.realm_as login.realm_words_as) rows request))
      × ((reply : Option Bytes)
      → Replies (call_at realm login.realm_as login.realm_words_as) rows request reply
      → (span : Span) × IsFirstSpan realm login span × ((under : ReplyKeyRecord) × IsAgreedKey client means (first_asked client login) under
      × ((granted : Bytes) × (reply ≡ Some granted) × IsTicketReply (first_grant client realm login span) under met.granting.account login.realm_words_as granted)))

  -- the realm has a reply to the request by the first ticket, and grants the one for the service
  unfoldable pub IsFurtherGranted : Type 0
  IsFurtherGranted = (first : Span) (granting : CredentialRecord) (request : Bytes)
      → IsFirstSpan realm login first
      → IsHeld met.granting.account login.realm_words_as (first_grant client realm login first) granting
      → AsksTgs client granting login.service login.till login.client_tgs login.words_tgs request
      → (AreBytes login.realm_words_tgs request → HasSome (Replies (call_at realm login.realm_tgs login.realm_words_tgs) rows request))
      × ((reply : Option Bytes)
      → Replies (call_at realm login.realm_tgs login.realm_words_tgs) rows request reply
      → (span : Span) × IsFurtherSpan realm login first span × ((granted : Bytes) × (reply ≡ Some granted)
      × IsTicketReply (further_grant client realm login first span) (tgs_reply_key client.suite (session_key_of client.suite login.realm_words_as)) met.honest.service.account login.realm_words_tgs granted))

  -- the client takes the first ticket that is granted
  unfoldable pub IsFirstTaken : Type 0
  IsFirstTaken = (span : Span) (under : ReplyKeyRecord) (granted : Bytes) (taken : Taken)
      → IsAgreedKey client means (first_asked client login) under
      → IsTicketReply (first_grant client realm login span) under met.granting.account login.realm_words_as granted
      → TakesAsReply client means (first_asked client login) granted taken
      → (credential : CredentialRecord) × (taken ≡ Ok credential)
      × IsHeld met.granting.account login.realm_words_as (first_grant client realm login span) credential

  -- the client takes the granted ticket for the service
  unfoldable pub IsFurtherTaken : Type 0
  IsFurtherTaken = (first span : Span) (granting : CredentialRecord) (granted : Bytes) (taken : Taken)
      → IsHeld met.granting.account login.realm_words_as (first_grant client realm login first) granting
      → IsTicketReply (further_grant client realm login first span) (tgs_reply_key client.suite (session_key_of client.suite login.realm_words_as)) met.honest.service.account login.realm_words_tgs granted
      → TakesTgsReply client (tgs_asked granting login.service login.words_tgs) granted taken
      → (credential : CredentialRecord) × (taken ≡ Ok credential)
      × IsHeld met.honest.service.account login.realm_words_tgs (further_grant client realm login first span) credential

  -- the service admits the client by that ticket: the admission has the session key and the client, and the client takes the reply
  unfoldable pub IsClientAdmitted : Type 0
  IsClientAdmitted = (first span : Span) (credential : CredentialRecord) (request : Bytes) (outcome : Outcome)
      → IsFirstSpan realm login first → IsFurtherSpan realm login first span
      → IsHeld met.honest.service.account login.realm_words_tgs (further_grant client realm login first span) credential
      → AsksAp client credential true false login.client_ap login.words_ap request
      → (remembering service (clock_of before login) before.admitted request login.service_words).gives outcome
      → (admission : AdmissionRecord) × (outcome ≡ (Ok admission, login_pair client login ∷ before.admitted))
      × (admission.session ≡ encryption_key client.suite (session_key_of client.suite login.realm_words_tgs))
      × (admission.realm ≡ client.realm) × (components admission.client ≡ client.components)
      × ((taken : Result (Unit {0}) TakeRefusal) → TakesApReply (ap_asked credential false login.client_ap login.words_ap) (reply_bytes admission.reply) taken → taken ≡ Ok tt)
