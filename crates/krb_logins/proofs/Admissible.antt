-- What the client of an honest login presents by its ticket for the service is admissible, whatever its authenticator has beside the
-- client's name and time.
use Rattle.std.proofs.Common.{◌≡◌, ◌/◌, Bool, true, Some, sym, subst}
use Rattle.asn1_leaves.specs.CharSets.{is_general_string}
use Rattle.asn1_leaves.specs.GeneralizedTime.{seconds_of}
use Rattle.asn1_leaves.specs.declared.date.GeneralizedTime.{GeneralizedTime}
use Rattle.picky_asn1.specs.Bytes.{Bytes}
use Rattle.krb_time.specs.Units.{Seconds}
use Rattle.krb_crypto.specs.Suites.{cipher_confounder_size}
use Rattle.krb_messages.specs.RandomBytes.{ticket_confounder}
use Rattle.krb_messages.specs.declared.data_types.authenticator.AuthenticatorInner.{AuthenticatorInner}
use Rattle.krb_tickets.specs.Sealing.{Seals}
use Rattle.krb_tickets.specs.Grant.{GrantRecord}
use Rattle.krb_tickets.specs.Parts.{ticket_part}
use Rattle.krb_tickets.specs.Sealed.{ticket_part_bytes}
use Rattle.krb_kdc_exchanges.specs.declared.span.Span.{Span}
use Rattle.krb_ap_requests.specs.Presents.{Choice}
use Rattle.krb_client.specs.Client.{ClientRecord, CredentialRecord}
use Rattle.krb_service.specs.Admissible.{IsAdmissible}
use Rattle.krb_service.specs.Service.{ServiceRecord}
use Rattle.krb_logins.specs.Held.{IsFirstSpan, IsFurtherSpan, IsHeld, further_grant}
use Rattle.krb_logins.specs.Honest.{AreEnough, AreParties, IsHonestLogin, IsTicketInTime, clock_of, further_end}
use Rattle.krb_logins.specs.Parties.{LoginRecord, RealmRecord, RememberedRecord}
use Rattle.krb_logins.specs.Tickets.{IsApHonest}
use Rattle.krb_logins.proofs.Names.{are_texts}
use Rattle.krb_logins.proofs.PresentedRuns.{choice_of}
use Rattle.krb_logins.proofs.PresentedTickets as tickets
use Rattle.krb_logins.proofs.PresentedTickets.{authenticator_beside}
use Rattle.krb_logins.proofs.TicketTimes.{further_ends}

module _ (client : ClientRecord) (realm : RealmRecord) (service : ServiceRecord) (before : RememberedRecord) (login : LoginRecord)
    (parties : AreParties client service) (enough : AreEnough login) (honest : IsHonestLogin client realm service before login) where
  -- the AP exchange of the login is honest
  abbrev pub ap_honest : IsApHonest client realm service before login
  ap_honest = record { named = honest.named; service = honest.service; near = honest.timely.ap_near; fresh = honest.fresh }

  -- names can be written
  pub client_realm : is_general_string client.realm ≡ true
  client_realm = tickets.client_realm client realm service before login parties ap_honest

  pub client_name : are_texts client.components ≡ true
  client_name = tickets.client_name client realm service before login parties ap_honest

  pub realm_name : is_general_string realm.name ≡ true
  realm_name = tickets.realm_name client realm service before login parties ap_honest

  pub service_name : are_texts login.service ≡ true
  service_name = tickets.service_name client realm service before login parties ap_honest

  module _ (first span : Span) (first_is : IsFirstSpan realm login first) (further_is : IsFurtherSpan realm login first span) where
    abbrev grant : GrantRecord
    grant = further_grant client realm login first span

    -- the ticket is valid now
    pub valid : IsTicketInTime (seconds_of span.starttime) (seconds_of span.endtime) service.seen.skew (clock_of before login)
    valid =
        let started = subst (λ (start : Seconds). IsTicketInTime start (further_end realm login) service.seen.skew (clock_of before login)) (sym further_is.starts) honest.timely.further in
        subst (λ (end : Seconds). IsTicketInTime (seconds_of span.starttime) end service.seen.skew (clock_of before login)) (sym (further_ends realm login first span first_is further_is)) started

    -- the confounder of the ticket's part
    abbrev pub for_part : Bytes
    for_part = ticket_confounder (cipher_confounder_size honest.service.account.suite) login.realm_words_tgs

    -- which is sealed under the service's key
    pub part_sealed : (credential : CredentialRecord) (held : IsHeld honest.service.account login.realm_words_tgs grant credential)
        → Seals service.entry.suite service.entry.key (Some service.entry.kvno) 2 for_part (ticket_part_bytes (ticket_part grant)) held.part
    part_sealed = tickets.part_sealed client realm service before login parties ap_honest login.realm_words_tgs enough.realm_tgs grant valid

    module _ (second : GeneralizedTime) (of_moment : seconds_of second ≡ login.client_ap / 1000000) (wanted : Bool) (other : AuthenticatorInner) (confounder : Bytes) where
      abbrev choice : Choice
      choice = choice_of wanted service.entry grant (authenticator_beside client login.client_ap second other) for_part confounder

      pub admissible : IsAdmissible service (clock_of before login) before.admitted choice
      admissible = tickets.admissible client realm service before login parties ap_honest login.realm_words_tgs enough.realm_tgs grant valid second of_moment wanted other confounder
