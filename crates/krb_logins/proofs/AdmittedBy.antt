-- A service admits a client by a ticket that it holds for the service.
use Rattle.std.proofs.Common.{◌≡◌, ◌/◌, ◌%◌, true, false, ◌∷◌, Option, None, Result, Ok, refl, sym, ap, subst, ◌∙◌}
use Rattle.asn1_leaves.specs.declared.date.GeneralizedTime.{GeneralizedTime}
use Rattle.picky_asn1.specs.Bytes.{Bytes}
use Rattle.asn1_leaves.specs.GeneralizedTime.{seconds_of}
use Rattle.krb_crypto.specs.Suites.{cipher_confounder_size}
use Rattle.krb_messages.specs.RandomBytes.{AreEnoughForReply, Random, authenticator_confounder}
use Rattle.krb_messages.specs.declared.data_types.authenticator.AuthenticatorInner.{AuthenticatorInner}
use Rattle.krb_tickets.specs.Parts.{session_key_of, ticket_part}
use Rattle.krb_tickets.specs.Grant.{GrantRecord}
use Rattle.krb_ap_requests.specs.Acceptable.{presented_choice}
use Rattle.krb_service.specs.Admission.{AdmissionRecord, admission_of}
use Rattle.krb_service.specs.ApReply.{IsReplyTo}
use Rattle.krb_ap_requests.specs.Presents.{Choice, Presents}
use Rattle.krb_ap_requests.specs.declared.presented.Presented.{Presented}
use Rattle.krb_client.specs.ApReply.{TakesApReply}
use Rattle.krb_client.specs.ApRequest.{ap_asked}
use Rattle.krb_client.specs.Authenticators.{IsApRequest, authenticator_with, authenticator_parts_of}
use Rattle.krb_client.specs.Client.{ClientRecord, CredentialRecord}
use Rattle.krb_client.specs.declared.refusal.TakeRefusal.{TakeRefusal}
use Rattle.krb_service.specs.Admissible.{IsAdmissible}
use Rattle.krb_service.specs.Once.{pair_of}
use Rattle.krb_service.specs.RememberingService.{Outcome, remembering}
use Rattle.krb_service.specs.Service.{ServiceRecord}
use Rattle.krb_logins.specs.Held.{IsHeld}
use Rattle.krb_logins.specs.Honest.{AreParties, IsTicketInTime, clock_of, login_pair}
use Rattle.krb_logins.specs.Parties.{LoginRecord, RealmRecord, RememberedRecord}
use Rattle.krb_logins.specs.Steps.{reply_bytes}
use Rattle.krb_logins.specs.Tickets.{IsApHonest, ticket_for}
use Rattle.krb_logins.proofs.ApEnds.{IsAdmittedBy, IsIn}
use Rattle.krb_logins.proofs.Outcomes.{admits}
use Rattle.krb_logins.proofs.PresentedRuns.{choice_of, presents}
use Rattle.krb_logins.proofs.PresentedTickets.{acceptable, admissible, client_name, client_realm, for_part, pair, part_sealed, realm_name, service_name}
use Rattle.krb_logins.proofs.ReplyTaken.{wanted_taken}
use Rattle.krb_logins.proofs.WholePresented.{whole_authenticator, whole_part}

module _ (client : ClientRecord) (realm : RealmRecord) (service : ServiceRecord) (before : RememberedRecord) (login : LoginRecord)
    (parties : AreParties client service) (honest : IsApHonest client realm service before login)
    (words : Random) (enough : AreEnoughForReply words) (granted : GrantRecord) (valid : IsTicketInTime (seconds_of granted.starttime) (seconds_of granted.endtime) service.seen.skew (clock_of before login)) where
  abbrev grant : GrantRecord
  grant = ticket_for client realm login.service words granted

  abbrev session : Bytes
  session = session_key_of client.suite words

  module _ (second : GeneralizedTime) (of_moment : seconds_of second ≡ login.client_ap / 1000000) where
    -- the authenticator that the client makes
    abbrev authenticator : AuthenticatorInner
    authenticator = authenticator_with (authenticator_parts_of client (login.client_ap % 1000000)) second None None

    -- the confounders of the ticket's part, and of the authenticator
    abbrev part_confounder : Bytes
    part_confounder = for_part client realm service before login parties honest words enough granted valid

    abbrev confounder : Bytes
    confounder = authenticator_confounder (cipher_confounder_size client.suite) login.words_ap

    abbrev choice : Choice
    choice = choice_of true service.entry grant authenticator part_confounder confounder

    abbrev own : IsAdmissible service (clock_of before login) before.admitted choice
    own = admissible client realm service before login parties honest words enough granted valid second of_moment true authenticator confounder

    abbrev presented : Presented
    presented = presented_choice service.entry service.seen.skew (clock_of before login) choice own.acceptable

    -- its pair is the client's
    own_pair : pair_of presented ≡ login_pair client login
    unfolding admissible
    own_pair = pair client realm service before login parties honest words enough granted valid second of_moment true authenticator confounder

    module _ (credential : CredentialRecord) (held : IsHeld honest.service.account words grant credential) where
      shows : (bytes : Bytes) → IsApRequest credential 11 true authenticator confounder bytes → Presents service.entry.key choice bytes
      shows bytes asks =
          let sealed = part_sealed client realm service before login parties honest words enough granted valid credential held in
          let realm_texts = realm_name client realm service before login parties honest in
          let names = client_name client realm service before login parties honest in
          let asked = service_name client realm service before login parties honest in
          presents true service.entry grant credential authenticator part_confounder confounder bytes held.part
          sealed held.ticket held.suite held.key asks realm_texts asked (whole_part grant realm_texts names)
          (whole_authenticator client (login.client_ap % 1000000) second None None (client_realm client realm service before login parties honest) names)

      -- the reply is taken
      taken_so : (reply : Option Bytes) → IsReplyTo presented login.service_words reply → (taken : Result (Unit {0}) TakeRefusal)
          → TakesApReply (ap_asked credential false login.client_ap login.words_ap) (reply_bytes reply) taken → taken ≡ Ok tt
      unfolding ticket_part acceptable admissible
      taken_so reply x taken y =
          wanted_taken (ap_asked credential false login.client_ap login.words_ap) login.service_words client.suite session authenticator reply taken
          (sym held.suite) (sym held.key) of_moment refl x y

      -- and the service tells key and client
      admitted : (bytes : Bytes) (outcome : Outcome) → IsApRequest credential 11 true authenticator confounder bytes
          → (remembering service (clock_of before login) before.admitted bytes login.service_words).gives outcome
          → (admission : AdmissionRecord) × IsIn client before login credential session outcome admission
      unfolding ticket_part acceptable admissible
      admitted bytes outcome asks given =
          let made = admits service (clock_of before login) before.admitted bytes login.service_words choice own (shows bytes asks) outcome given in (
            admission_of presented made.0,
            (
              made.2 ∙ ap (λ p. (Ok (admission_of presented made.0), p ∷ before.admitted)) own_pair,
              refl,
              sym honest.named.client,
              refl,
              taken_so made.0 made.1,
            ),
          )

  -- by what it holds the client is admitted
  pub admitted_by : (credential : CredentialRecord) → IsHeld honest.service.account words grant credential → IsAdmittedBy client service before login credential session
  admitted_by credential held = record {
    suite = held.suite;
    key_is = held.key;
    admits = λ request outcome asks given.
        let own_request = subst (λ suite. IsApRequest credential 11 true asks.authenticator (authenticator_confounder (cipher_confounder_size suite) login.words_ap) request) held.suite asks.presents in
        let presents_so = subst (λ a. IsApRequest credential 11 true a (authenticator_confounder (cipher_confounder_size client.suite) login.words_ap) request) asks.authenticates.is_made own_request in
        admitted asks.authenticates.second asks.authenticates.of_moment credential held request outcome presents_so given;
  }
