-- By a ticket-granting ticket that it holds a client is granted the next ticket and takes it. A login by it leaves client and service
-- with one key.
use Rattle.std.proofs.Common.{◌≡◌, true, List, Option, None, Some, Result, Ok, Err, inl, inr, refl, sym, ap, subst, ◌∙◌}
use Rattle.asn1_leaves.specs.CharSets.{is_general_string}
use Rattle.asn1_leaves.specs.GeneralizedTime.{seconds_of}
use Rattle.picky_asn1.specs.Bytes.{Bytes}
use Rattle.krb_time.specs.Units.{Seconds}
use Rattle.krb_messages.specs.TicketGranting.{krbtgt_of}
use Rattle.krb_realm_accounts.specs.Account.{AccountRecord}
use Rattle.krb_kdc_exchanges.specs.Call.{CallRecord}
use Rattle.krb_kdc_exchanges.specs.Rows.{PkinitRows}
use Rattle.krb_kdc_exchanges.specs.Times.{end_of, start_of}
use Rattle.krb_tickets.specs.Grant.{GrantRecord}
use Rattle.krb_tickets.specs.Parts.{session_key_of}
use Rattle.krb_client.specs.Asked.{AsAskedRecord, TgsAskedRecord}
use Rattle.krb_client.specs.AsReply.{TakesAsReply, takes_as_reply}
use Rattle.krb_client.specs.Client.{ClientRecord, CredentialRecord}
use Rattle.krb_client.specs.Means.{MeansRecord}
use Rattle.krb_client.specs.TgsReply.{TakesTgsReply, takes_tgs_reply}
use Rattle.krb_client.specs.TgsRequest.{tgs_asked}
use Rattle.krb_client.specs.declared.options.TicketOptions.{TicketOptions}
use Rattle.krb_client.specs.declared.refusal.AskRefusal.{AskRefusal}
use Rattle.krb_client.specs.declared.refusal.AskRefusal.TheVariants as ask_refusal
use Rattle.krb_client.proofs.PlainOptions.{tgs_plain}
use Rattle.krb_service.specs.Service.{ServiceRecord}
use Rattle.krb_logins.specs.Authenticated.{first_asked}
use Rattle.krb_logins.specs.Held.{IsHeld}
use Rattle.krb_logins.specs.Honest.{AreParties, Ends, IsOneKey, IsTicketInTime, clock_of}
use Rattle.krb_logins.specs.LoginRun.{ApExchange, AsExchangeWith, Login, TgsExchange, TgsExchangeWith}
use Rattle.krb_logins.specs.Parties.{LoginRecord, RealmRecord, RememberedRecord, TgsRecord, call_at, tgs_of}
use Rattle.krb_logins.specs.TicketChains.{IsTicketLoginHonest, TicketLogin}
use Rattle.krb_logins.specs.Steps.{IsAsAskedWith, IsTgsAsked, IsTgsAskedWith}
use Rattle.krb_logins.specs.Tickets.{AreOfOneRealm, Holds, HoldsFirst, HoldsGranting, HoldsNext, IsAsHonest, IsTgsHonest, end_by, first_grant_with, next_grant, ticket_for}
use Rattle.krb_logins.specs.declared.refusal.LoginRefusal.{LoginRefusal}
use Rattle.krb_logins.proofs.AdmittedBy.{admitted_by}
use Rattle.krb_logins.proofs.ApEnds.{exchanged_key}
use Rattle.krb_logins.proofs.ExchangeEnds.{IsTakenSo, asked_memory, exchange_ends, first_memory, granting_name}
use Rattle.krb_logins.proofs.FirstGranted.{granted_first}
use Rattle.krb_logins.proofs.FirstTaken as first
use Rattle.krb_logins.proofs.FurtherTaken as further
use Rattle.krb_logins.proofs.GrantTaken.{session_key_sized}
use Rattle.krb_logins.proofs.Names.{are_texts, component_texts, granting_texts, realm_text}
use Rattle.krb_logins.proofs.NextGranted.{next_granted}
use Rattle.krb_logins.proofs.WholeReplies.{AreTexts}

-- what is granted to the client can be written
texts_of : (client : ClientRecord) (realm : RealmRecord) (service : List Bytes) (words : Bytes) (other : GrantRecord) → AreOfOneRealm client realm → are_texts service ≡ true
    → AreTexts (ticket_for client realm service words other)
texts_of client realm service words other one asked = record {
  realm = subst (λ name. is_general_string name ≡ true) one.same (realm_text client.realm one.realm_name);
  client = component_texts client.components one.name;
  service = asked;
}

-- ---- the first ticket

module _ (client : ClientRecord) (options : TicketOptions) (means : MeansRecord) (realm : RealmRecord) (rows : PkinitRows) (login : LoginRecord)
    (one : AreOfOneRealm client realm) (honest : IsAsHonest client options means realm rows one.known.account login) where
  abbrev as_call : CallRecord
  as_call = call_at realm login.realm_as login.realm_words_as

  abbrev as_asks : Result (Bytes × AsAskedRecord) AskRefusal → Type 0
  as_asks = IsAsAskedWith client options means (krbtgt_of client.realm) login.till login.client_as login.words_as

  abbrev First : CredentialRecord → Type 0
  First = HoldsFirst client options realm login

  as_taken : (sent : Bytes × AsAskedRecord) → as_asks (Ok sent) → IsTakenSo AsAskedRecord as_call rows as_asks (takes_as_reply client means) First sent
  unfolding IsAsAskedWith
  as_taken sent asked reply replied =
      let it = (granted_first client options means realm rows login one honest sent.0 asked.0).1 reply replied in
      let grant = first_grant_with client options realm login it.span it.till in (
        it.bytes,
        it.is,
        λ taken x.
            let own = subst (λ a. TakesAsReply client means a it.bytes taken) asked.1 x in
            let held = first.taken_of client means it.under honest.granting.account (first_asked client login) grant login.realm_words_as it.bytes taken it.agreed
            (texts_of client realm (krbtgt_of client.realm) login.realm_words_as grant one (granting_texts client.realm one.realm_name))
            (record { nonce = refl; realm = sym one.same; name = refl; service = refl }) (session_key_sized client.suite login.realm_words_as honest.enough) it.replied own in (
              held.0,
              held.1,
              record {
                holds = record {
                  account = honest.granting.account;
                  found = ap (λ name. realm.look (krbtgt_of name)) one.same ∙ honest.granting.found;
                  words = login.realm_words_as;
                  enough = honest.enough;
                  grant = grant;
                  held = held.2;
                };
                span = it.span;
                lasts = it.lasts;
                till = it.till;
                renews = it.renews;
                grants = refl;
              },
            ),
      )

  as_unasked : (refusal : AskRefusal) → as_asks (Err refusal) → refusal ≡ ask_refusal.Memory
  unfolding IsAsAskedWith
  as_unasked refusal x =
      first_memory client options means (krbtgt_of client.realm) login.till login.client_as login.words_as refusal (granting_name client.realm one.realm_name) honest.authenticated.asks x.0

  pub first_held : (result : Result CredentialRecord LoginRefusal) → AsExchangeWith client options means realm rows login result → Ends First result
  unfolding AsExchangeWith
  first_held = exchange_ends AsAskedRecord as_call rows as_asks (takes_as_reply client means) First as_unasked as_taken

-- ---- the next ticket

module _ (client : ClientRecord) (realm : RealmRecord) (rows : PkinitRows) (exchange : TgsRecord) (granting : CredentialRecord)
    (one : AreOfOneRealm client realm) (holds : HoldsGranting client realm granting) (honest : IsTgsHonest client realm exchange granting) where
  abbrev tgs_call : CallRecord
  tgs_call = call_at realm exchange.realm_at exchange.realm_words

  abbrev tgs_asks : Result (Bytes × TgsAskedRecord) AskRefusal → Type 0
  tgs_asks = IsTgsAskedWith client exchange granting

  abbrev Next : CredentialRecord → Type 0
  Next = HoldsNext client realm exchange granting holds

  tgs_taken : (sent : Bytes × TgsAskedRecord) → tgs_asks (Ok sent) → IsTakenSo TgsAskedRecord tgs_call rows tgs_asks (takes_tgs_reply client) Next sent
  unfolding IsTgsAskedWith
  tgs_taken sent asked reply replied =
      let it = (next_granted client realm rows exchange granting one holds honest sent.0 asked.0).1 reply replied in
      let old = ticket_for client realm (krbtgt_of client.realm) holds.words holds.grant in
      let grant = next_grant client realm exchange old it.span it.till in (
        it.bytes,
        it.is,
        λ taken x.
            let own = subst (λ a. TakesTgsReply client a it.bytes taken) asked.1 x in
            let held = further.taken_of client client.suite (session_key_of client.suite holds.words) honest.account (tgs_asked granting exchange.service exchange.words) grant exchange.realm_words it.bytes taken
            (sym holds.held.suite) (sym holds.held.key)
            (texts_of client realm exchange.service exchange.realm_words grant one (component_texts exchange.service honest.named))
            (record { nonce = refl; realm = sym one.same; name = refl; service = refl }) (session_key_sized client.suite exchange.realm_words honest.enough) it.replied own in (
              held.0,
              held.1,
              record {
                holds_it = record {
                  account = honest.account;
                  found = honest.found;
                  words = exchange.realm_words;
                  enough = honest.enough;
                  grant = grant;
                  held = held.2;
                };
                next = record { span = it.span; lasts = it.lasts; till = it.till; renews = it.renews; grants = refl };
              },
            ),
      )

  tgs_unasked : (refusal : AskRefusal) → tgs_asks (Err refusal) → refusal ≡ ask_refusal.Memory
  unfolding IsTgsAskedWith
  tgs_unasked refusal = asked_memory exchange.service refusal honest.named

  pub next_held : (result : Result CredentialRecord LoginRefusal) → TgsExchangeWith client realm rows exchange granting result → Ends Next result
  unfolding TgsExchangeWith
  next_held = exchange_ends TgsAskedRecord tgs_call rows tgs_asks (takes_tgs_reply client) Next tgs_unasked tgs_taken

-- ---- a login by the ticket

-- a TGS exchange of a login is one without options
without_options : (client : ClientRecord) (realm : RealmRecord) (rows : PkinitRows) (login : LoginRecord) (granting : CredentialRecord) (result : Result CredentialRecord LoginRefusal)
    → TgsExchange client realm rows login granting result → TgsExchangeWith client realm rows (tgs_of login) granting result
unfolding TgsExchange TgsExchangeWith IsTgsAsked IsTgsAskedWith
without_options client realm rows login granting result (inl x) = inl (x.0, (tgs_plain x.1.0, x.1.1, x.1.2), x.2)
without_options client realm rows login granting result (inr x) = inr (x.0, x.1, x.2)

-- a name has one account
abbrev IsThis : AccountRecord → Option AccountRecord → Type 0
IsThis account None = ⊥
IsThis account (Some other) = account ≡ other

one_account : (account other : AccountRecord) (found : Option AccountRecord) → found ≡ Some account → found ≡ Some other → account ≡ other
one_account account other found is too = subst (IsThis account) (sym is ∙ too) refl

module _ (client : ClientRecord) (realm : RealmRecord) (rows : PkinitRows) (service : ServiceRecord) (login : LoginRecord) (granting : CredentialRecord) (before : RememberedRecord)
    (one : AreOfOneRealm client realm) (holds : HoldsGranting client realm granting) (honest : IsTicketLoginHonest client realm service before login granting) where
  parties : AreParties client service
  parties = record { realm = one.realm_name; name = one.name; entry = honest.entry }

  service_found : realm.look login.service ≡ Some honest.ap.service.account
  service_found = ap realm.look honest.ap.named.asked ∙ honest.ap.service.found

  module _ (credential : CredentialRecord) (next : HoldsNext client realm (tgs_of login) granting holds credential) where
    abbrev it : Holds client realm login.service credential
    it = next.holds_it

    -- it is valid, as the client's credential says, from the moment of its grant to its end
    starts : start_of login.realm_tgs ≡ seconds_of it.grant.starttime
    starts = sym (ap (λ (grant : GrantRecord). seconds_of grant.starttime) next.next.grants ∙ next.next.lasts.starts)

    ends : end_by realm (tgs_of login) granting ≡ seconds_of it.grant.endtime
    ends =
        let by_old : seconds_of next.next.span.endtime ≡ end_by realm (tgs_of login) granting =
        next.next.lasts.ends ∙ ap (λ time. end_of realm.settings.lifetime (start_of login.realm_tgs) (Some (seconds_of time)) (seconds_of login.till)) (sym holds.held.endtime) in
        sym (ap (λ (grant : GrantRecord). seconds_of grant.endtime) next.next.grants ∙ by_old)

    valid : IsTicketInTime (seconds_of it.grant.starttime) (seconds_of it.grant.endtime) service.seen.skew (clock_of before login)
    valid =
        let started = subst (λ (start : Seconds). IsTicketInTime start (end_by realm (tgs_of login) granting) service.seen.skew (clock_of before login)) starts honest.valid in
        subst (λ (end : Seconds). IsTicketInTime (seconds_of it.grant.starttime) end service.seen.skew (clock_of before login)) ends started

    held : IsHeld honest.ap.service.account it.words (ticket_for client realm login.service it.words it.grant) credential
    held =
        subst (λ account. IsHeld account it.words (ticket_for client realm login.service it.words it.grant) credential)
        (one_account it.account honest.ap.service.account (realm.look login.service) it.found service_found) it.held

    admitted : (result : Result Login LoginRefusal) (after : RememberedRecord) → ApExchange client service login credential before result after → IsOneKey client result
    admitted =
        exchanged_key client service before login credential (session_key_of client.suite it.words)
        (admitted_by client realm service before login parties honest.ap it.words it.enough it.grant valid credential held)

  next_is : (result : Result CredentialRecord LoginRefusal) → TgsExchange client realm rows login granting result → Ends (HoldsNext client realm (tgs_of login) granting holds) result
  next_is result exchange = next_held client realm rows (tgs_of login) granting one holds honest.tgs result (without_options client realm rows login granting result exchange)

  pub one_key : (result : Result Login LoginRefusal) (after : RememberedRecord) → TicketLogin client realm rows service login granting before result after → IsOneKey client result
  unfolding TicketLogin
  one_key result after (inl x) = admitted x.0 (next_is (Ok x.0) x.1) result after x.2
  one_key result after (inr x) = subst (IsOneKey client) (sym x.2) (next_is (Err x.0) x.1)
