-- What an honest login grants makes a login by GSS honest.
use Rattle.std.proofs.Common.{◌≡◌, ◌/◌, ℕ, true, max, length, Some, sym, ap, subst, ◌∙◌}
use Rattle.asn1_der.specs.Tree.{IsWhole}
use Rattle.asn1_leaves.specs.CharSets.{is_general_string}
use Rattle.asn1_leaves.specs.GeneralizedTime.{seconds_of}
use Rattle.asn1_leaves.specs.declared.date.GeneralizedTime.{GeneralizedTime}
use Rattle.picky_asn1.specs.Bytes.{Bytes}
use Rattle.krb_time.specs.Units.{Micros}
use Rattle.krb_crypto.specs.Suites.{cipher_key_size}
use Rattle.krb_crypto.specs.declared.suite.CipherSuite.{CipherSuite}
use Rattle.krb_messages.specs.RandomBytes.{Random}
use Rattle.krb_messages.specs.declared.data_types.authenticator.AuthenticatorInner.{AuthenticatorInner}
use Rattle.krb_messages.specs.declared.data_types.enc_ticket_part.EncTicketPartInner.{EncTicketPartInner}
use Rattle.krb_messages.specs.declared.data_types.ticket.TicketInner.{TicketInner}
use Rattle.krb_messages.specs.Messages.{enc_ticket_part_tree}
use Rattle.krb_tickets.specs.Sealing.{Seals, encrypted_by, encryption_key}
use Rattle.krb_kdc_exchanges.specs.declared.span.Span.{Span}
use Rattle.krb_tickets.specs.Grant.{GrantRecord}
use Rattle.krb_tickets.specs.Parts.{ticket_of, ticket_part}
use Rattle.krb_tickets.specs.Sealed.{ticket_part_bytes}
use Rattle.krb_ap_requests.specs.Presents.{Choice, SealsTo}
use Rattle.krb_client.specs.Client.{ClientRecord, CredentialRecord}
use Rattle.krb_service.specs.Admissible.{IsAdmissible}
use Rattle.krb_service.specs.Service.{ServiceRecord}
use Rattle.krb_logins.specs.Choices.{choice_by}
use Rattle.krb_logins.specs.Held.{IsFirstSpan, IsFurtherSpan, IsHeld, further_grant}
use Rattle.krb_logins.specs.Honest as logins
use Rattle.krb_logins.specs.Parties.{LoginRecord, RealmRecord, RememberedRecord}
use Rattle.krb_logins.proofs.Admissible.{admissible, client_name, client_realm, for_part, part_sealed, realm_name, service_name}
use Rattle.krb_logins.proofs.GrantTaken.{session_key_sized}
use Rattle.krb_logins.proofs.PresentedRuns.{seals_part}
use Rattle.krb_logins.proofs.WholePresented.{whole_part, whole_ticket}
use Rattle.gss_acceptor.specs.declared.checksum.InitialChecksum.{InitialChecksum}
use Rattle.gss_acceptor.specs.declared.terms.AcceptorTerms.{AcceptorTerms}
use Rattle.gss_initiator.specs.Checksums.{is_mutual}
use Rattle.gss_initiator.specs.Initiating.{refusal_of}
use Rattle.gss_initiator.specs.Requests.{IsContextAuthenticator}
use Rattle.gss_logins.specs.Granted.{IsHonestGssLogin, gss_login_of}
use Rattle.gss_logins.specs.GssLogins.{GssLogin, choice_of, clock_of, confounder_of}
use Rattle.gss_logins.specs.Honest.{HasServiceTicket, IsAsking, IsHonest, ticket_tree}
use Rattle.gss_logins.proofs.Presented.{is_own, own_authenticator}

module _ (client : ClientRecord) (realm : RealmRecord) (service : ServiceRecord) (terms : AcceptorTerms) (before : RememberedRecord) (login : LoginRecord) (initial : InitialChecksum) (words : Random)
    (is : IsHonestGssLogin client realm service terms before login initial words) (first span : Span) (first_is : IsFirstSpan realm login first) (further_is : IsFurtherSpan realm login first span)
    (credential : CredentialRecord) (held : IsHeld is.honest.service.account login.realm_words_tgs (further_grant client realm login first span) credential) where
  abbrev own : GssLogin
  own = gss_login_of client credential initial words service terms before login

  abbrev grant : GrantRecord
  grant = further_grant client realm login first span

  abbrev part : EncTicketPartInner
  part = ticket_part grant

  abbrev confounder : Bytes
  confounder = for_part client realm service before login is.parties is.enough is.honest first span first_is further_is

  -- the ticket is the grant's, whose part is sealed under the service's key
  sealed : Seals service.entry.suite service.entry.key (Some service.entry.kvno) 2 confounder (ticket_part_bytes part) held.part
  sealed = part_sealed client realm service before login is.parties is.enough is.honest first span first_is further_is credential held

  abbrev granted : TicketInner
  granted = ticket_of grant (encrypted_by service.entry.suite (Some service.entry.kvno) sealed.cipher)

  carried : credential.ticket ≡ granted
  carried = held.ticket ∙ ap (ticket_of grant) sealed.told

  realm_text : is_general_string realm.name ≡ true
  realm_text = realm_name client realm service before login is.parties is.enough is.honest

  whole : IsWhole (ticket_tree credential.ticket)
  whole =
      let names = service_name client realm service before login is.parties is.enough is.honest in
      subst (λ (t : TicketInner). IsWhole (ticket_tree t)) (sym carried) (whole_ticket grant service.entry.suite service.entry.kvno sealed.cipher realm_text names)

  abbrev SealsPart : TicketInner → Type 0
  SealsPart ticket = SealsTo {T = EncTicketPartInner} enc_ticket_part_tree ticket.enc_part.0.etype.0 service.entry.key 2 confounder part ticket.enc_part.0.cipher.0

  seals : SealsPart credential.ticket
  unfolding ticket_of
  seals =
      let names = client_name client realm service before login is.parties is.enough is.honest in
      let made : SealsPart granted = seals_part service.entry grant confounder held.part sealed (whole_part grant realm_text names) in
      subst SealsPart (sym carried) made

  ticket : HasServiceTicket own
  unfolding ticket_part
  ticket = record {
    whole = whole;
    part = part;
    confounder = confounder;
    sealed = seals;
    session = sym (λ i. encryption_key (held.suite i) (held.key i));
    keyed = ap length held.key ∙ session_key_sized client.suite login.realm_words_tgs is.enough.realm_tgs ∙ ap cipher_key_size (sym held.suite);
  }

  asking : IsAsking own
  asking = record {
    offered = ap (λ (s : CipherSuite). refusal_of s initial.flags) held.suite ∙ is.asked.offered;
    hashed = is.asked.hashed;
    realm = client_realm client realm service before login is.parties is.enough is.honest;
    name = client_name client realm service before login is.parties is.enough is.honest;
    enough = is.asked.enough;
  }

  -- what the client chooses is what it would choose in the login, but for what the authenticator has beside
  abbrev chosen : TicketInner → CipherSuite → AuthenticatorInner → Choice
  chosen held_ticket suite authenticator =
      choice_by (record credential { ticket = held_ticket; suite = suite }) (is_mutual initial.flags) part confounder authenticator (confounder_of own)

  abbrev IsAdmitted : Micros → Choice → Type 0
  IsAdmitted clock choice = IsAdmissible service clock before.admitted choice

  -- by an authenticator of the client, at the login's clock
  at_clock : (second : GeneralizedTime) → seconds_of second ≡ login.client_ap / 1000000
      → IsAdmitted (logins.clock_of before login) (chosen credential.ticket credential.suite (own_authenticator own second))
  unfolding ticket_of
  at_clock second of_moment =
      let authenticator = own_authenticator own second in
      let made : IsAdmitted (logins.clock_of before login) (chosen granted client.suite authenticator) =
      admissible client realm service before login is.parties is.enough is.honest first span first_is further_is second of_moment (is_mutual initial.flags) authenticator (confounder_of own) in
      subst (IsAdmitted (logins.clock_of before login)) (λ i. chosen (sym carried i) (sym held.suite i) authenticator) made

  admitted : (authenticator : AuthenticatorInner) → IsContextAuthenticator client credential initial login.client_ap words authenticator
      → IsAdmitted (clock_of own) (choice_of own part confounder authenticator)
  admitted authenticator x =
      let clock : logins.clock_of before login ≡ clock_of own = ap (λ (greatest : ℕ). max greatest login.service_ap) is.remembered.greatest in
      let timed = subst (λ (m : Micros). IsAdmitted m (choice_of own part confounder (own_authenticator own x.authenticates.second))) clock (at_clock x.authenticates.second x.authenticates.of_moment) in
      subst (λ (a : AuthenticatorInner). IsAdmitted (clock_of own) (choice_of own part confounder a)) (sym (is_own own authenticator x)) timed

  pub honest_of_grant : IsHonest own
  unfolding ticket
  honest_of_grant = record { asking = asking; ticket = ticket; answering = is.answering; window = is.remembered.window; admissible = admitted }
