-- Each reply of a realm grants a ticket by the rows of its tables, or is an error.
use Rattle.std.proofs.Common.{◌≡◌, ◌%◌, ℕ, Bool, true, false, not, List, Option, None, Some, Result, Ok, Err, refl, sym, subst, inl, inr}
use Rattle.asn1_leaves.specs.GeneralizedTime.{seconds_of}
use Rattle.asn1_leaves.specs.declared.date.GeneralizedTime.{GeneralizedTime}
use Rattle.picky_asn1.specs.Bytes.{Bytes}
use Rattle.krb_crypto.specs.declared.suite.CipherSuite.{CipherSuite}
use Rattle.krb_time.specs.Units.{Micros, Seconds}
use Rattle.krb_messages.specs.Names.{components, is_same_realm}
use Rattle.krb_messages.specs.TicketGranting.{krbtgt_of}
use Rattle.krb_messages.specs.declared.data_types.enc_ticket_part.EncTicketPartInner.{EncTicketPartInner}
use Rattle.krb_messages.specs.declared.data_types.principal_name.PrincipalName.{PrincipalName}
use Rattle.krb_messages.specs.Messages.{IsAsReq, IsTgsReq}
use Rattle.krb_messages.specs.declared.messages.ap_req.ApReqInner.{ApReqInner}
use Rattle.krb_messages.specs.declared.messages.kdc_req.KdcReq.{KdcReq}
use Rattle.krb_messages.specs.declared.messages.kdc_req_body.KdcReqBody.{KdcReqBody}
use Rattle.krb_realm_accounts.specs.Account.{AccountKeyRecord, AccountRecord}
use Rattle.krb_realm_accounts.specs.Accounts.{Look}
use Rattle.decision_tables.specs.Tables.{Table, and_then, done, need, refuse}
use Rattle.krb_kdc_exchanges.specs.Rows.{PkinitRows}
use Rattle.krb_tickets.specs.Grant.{GrantRecord}
use Rattle.krb_tickets.specs.Granted.{IsTicketReply}
use Rattle.krb_tickets.specs.ReplyKeys.{ReplyKeyRecord}
use Rattle.krb_ap_requests.specs.ApTable.{ap_fields, opened_part, timely}
use Rattle.krb_ap_requests.specs.declared.presented.Authenticated.{Authenticated}
use Rattle.krb_ap_requests.proofs.Chosen.{needed}
use Rattle.krb_ap_requests.proofs.Shown.{both, ok_same}
use Rattle.krb_kdc_exchanges.specs.Allowed.{first_allowed, further_allowed, lifetime_of, limited}
use Rattle.krb_kdc_exchanges.specs.Call.{skew_of}
use Rattle.krb_kdc_exchanges.specs.ChosenKeys.{chosen}
use Rattle.krb_kdc_exchanges.specs.Granting.{replied}
use Rattle.krb_kdc_exchanges.specs.Requests.{account_of, body_of, client_of, has_refused_option, header_rows, is_ended, IsSpan, lasting, service_of}
use Rattle.krb_kdc_exchanges.specs.Options.{asked_options}
use Rattle.krb_kdc_exchanges.specs.declared.options.AskedOptions.{AskedOptions}
use Rattle.krb_messages.specs.Padata.{padata_in}
use Rattle.krb_kdc_exchanges.specs.declared.span.Span.{Span}
use Rattle.krb_kdc_exchanges.specs.AsTable.{as_table, authenticated, is_later, is_listed, possible}
use Rattle.krb_kdc_exchanges.specs.Grants.{Principals, granted, initial_grant}
use Rattle.krb_kdc_exchanges.specs.ByTicket.{IsByTicket}
use Rattle.krb_kdc_exchanges.specs.TgsTable.{authenticated_near, by_options, carried, client_and_times, covered, first_granted, further, further_grant, further_in, further_lasting, further_replied, further_till, of_authenticated, of_carried, of_ticket, reply_key, subkey_in, tgs_granted, tgs_table, ticket_granting, to_us, without_des3}
use Rattle.krb_kdc_exchanges.proofs.ByTicket.{by_padata, by_ticket}
use Rattle.krb_kdc_exchanges.proofs.Written.{header_realm}
use Rattle.krb_kdc_exchanges.specs.Errors.{error_of}
use Rattle.krb_kdc_exchanges.specs.Replies.{Replies, e_data_of, named_service, reply_of}
use Rattle.krb_service.proofs.Admitting.{passes}
use Rattle.krb_authenticity.specs.Grants.{IsFirst, IsFurther, IsGrantOrError, IsGranted}
use Rattle.krb_authenticity.specs.Parties.{ExchangeRecord}

-- ---- rows that both tables have

lasting_span : (lifetime : Seconds) (moment : Micros) (old : Option Seconds) (body : KdcReqBody) (span : Span) → (lasting lifetime moment old body).gives (Ok span)
    → IsSpan lifetime moment old (seconds_of body.till.0.0) span
lasting_span lifetime moment old body span x =
    let own = passes {T = Span} (is_ended x.0) 11 (done (Ok x.0)) span x.2 in
    subst (λ s. IsSpan lifetime moment old (seconds_of body.till.0.0) s) (sym (ok_same span x.0 own.1)) x.1

replied_bytes : (grant : GrantRecord) (under : ReplyKeyRecord) (service : AccountRecord) (words bytes : List ℕ) → (replied grant under service words).gives (Ok bytes) → IsTicketReply grant under service words bytes
replied_bytes grant under service words bytes x = subst (λ b. IsTicketReply grant under service words b) (sym (ok_same bytes x.0 x.2)) x.1

account_named : (look : Look) (name : Option PrincipalName) (given : PrincipalName) (account : AccountRecord) → name ≡ Some given → account_of look name ≡ Some account → look (components given) ≡ Some account
account_named look name given account named found = subst (λ n. account_of look n ≡ Some account) named found

-- ---- the AS table

module _ (rows : PkinitRows) (exchange : ExchangeRecord) (request : KdcReq) (read : IsAsReq exchange.request request) where
  abbrev of_client : Option AccountRecord
  of_client = account_of exchange.call.look (client_of (body_of request))

  abbrev of_service : Option AccountRecord
  of_service = account_of exchange.call.look (service_of (body_of request))

  abbrev asked_by : PrincipalName → AccountRecord → PrincipalName → AccountRecord → Principals
  asked_by client_name client service_name service = record { client_name = client_name; client = client; service_name = service_name; service = service }

  abbrev to_grant : Principals → Span → Table (Result Bytes ℕ)
  to_grant asked span =
      and_then (authenticated exchange.call rows asked.client (components asked.client_name) request) (λ under. granted exchange.call asked under span request.req_body.0)

  -- how long a ticket lasts at most
  abbrev lifetime : Principals → Seconds
  lifetime asked = lifetime_of exchange.call.settings.lifetime asked.client asked.service

  abbrev to_be_possible : Principals → Table (Result Bytes ℕ)
  to_be_possible asked = and_then (possible exchange.call (lifetime asked) asked.client.suite request.req_body.0) (to_grant asked)

  abbrev to_be_allowed : Principals → Table (Result Bytes ℕ)
  to_be_allowed asked = and_then {A = Unit {0}} (first_allowed exchange.call.moment asked) (λ _. to_be_possible asked)

  abbrev by_service : PrincipalName → AccountRecord → PrincipalName → AccountRecord → Table (Result Bytes ℕ)
  by_service client_name client service_name service = to_be_allowed (asked_by client_name client service_name service)

  abbrev by_service_name : PrincipalName → AccountRecord → PrincipalName → Table (Result Bytes ℕ)
  by_service_name client_name client service_name = need of_service 7 (by_service client_name client service_name)

  abbrev by_client : PrincipalName → AccountRecord → Table (Result Bytes ℕ)
  by_client client_name client = need (service_of request.req_body.0) 7 (by_service_name client_name client)

  abbrev by_client_name : PrincipalName → Table (Result Bytes ℕ)
  by_client_name client_name = need of_client 6 (by_client client_name)

  abbrev to_name : Table (Result Bytes ℕ)
  to_name = need (client_of request.req_body.0) 6 by_client_name

  abbrev in_suite : CipherSuite → Span → Table (Result Span ℕ)
  in_suite suite span = refuse (not (is_listed suite request.req_body.0)) 14 (done (Ok span))

  possible_span : (lifetime : Seconds) (suite : CipherSuite) (span : Span) → (possible exchange.call lifetime suite request.req_body.0).gives (Ok span)
      → IsSpan lifetime exchange.call.moment None (seconds_of request.req_body.0.till.0.0) span
  possible_span lifetime suite span x =
      let own = passes {T = Span} (is_later exchange.call request.req_body.0) 10 (and_then (lasting lifetime exchange.call.moment None request.req_body.0) (in_suite suite)) span x in
      let parts = both {A = Span} {T = Span} (lasting lifetime exchange.call.moment None request.req_body.0) (in_suite suite) span own.1 in
      let last = passes {T = Span} (not (is_listed suite request.req_body.0)) 14 (done (Ok parts.0)) span parts.2 in
      subst (λ s. IsSpan lifetime exchange.call.moment None (seconds_of request.req_body.0.till.0.0) s) (sym (ok_same span parts.0 last.1))
      (lasting_span lifetime exchange.call.moment None request.req_body.0 parts.0 parts.1)

  by_as_table : (as_table exchange.call rows of_client of_service request).gives (Ok exchange.reply) → (grant : GrantRecord) × (service : AccountRecord) × IsGranted rows exchange grant service
  by_as_table x =
      let refused = has_refused_option request.req_body.0.kdc_options.0 in
      let a = both {A = Unit {0}} {T = Bytes} (header_rows 10 exchange.call.realm refused request) (λ _. to_name) exchange.reply x in
      let b = needed {A = PrincipalName} {T = Bytes} (client_of request.req_body.0) 6 by_client_name exchange.reply a.2 in
      let c = needed {A = AccountRecord} {T = Bytes} of_client 6 (by_client b.0) exchange.reply b.2 in
      let d = needed {A = PrincipalName} {T = Bytes} (service_of request.req_body.0) 7 (by_service_name b.0 c.0) exchange.reply c.2 in
      let e = needed {A = AccountRecord} {T = Bytes} of_service 7 (by_service b.0 c.0 d.0) exchange.reply d.2 in
      let asked : Principals = asked_by b.0 c.0 d.0 e.0 in
      let i = both {A = Unit {0}} {T = Bytes} (first_allowed exchange.call.moment asked) (λ _. to_be_possible asked) exchange.reply e.2 in
      let f = both {A = Span} {T = Bytes} (possible exchange.call (lifetime asked) c.0.suite request.req_body.0) (to_grant asked) exchange.reply i.2 in
      let g = both {A = ReplyKeyRecord} {T = Bytes} (authenticated exchange.call rows c.0 (components b.0) request) (λ under. granted exchange.call asked under f.0 request.req_body.0) exchange.reply f.2 in
      let till : Option GeneralizedTime = g.2.0 in
      let grant : GrantRecord = initial_grant exchange.call asked request.req_body.0 f.0 till in
      let first : IsFirst rows exchange grant g.0 e.0 = record {
        asked = request;
        read = read;
        of_realm = header_realm 10 exchange.call.realm refused request a.1;
        principals = asked;
        client_named = b.1;
        client_found = account_named exchange.call.look (client_of request.req_body.0) b.0 c.0 b.1 c.1;
        service_named = d.1;
        service_found = account_named exchange.call.look (service_of request.req_body.0) d.0 e.0 d.1 e.1;
        allowed = i.1;
        span = f.0;
        lasts = possible_span (lifetime asked) c.0.suite f.0 f.1;
        authenticates = g.1;
        till = till;
        renews = g.2.1;
        grants = refl;
        sealed_for = refl;
      } in
      (grant, e.0, record { under = g.0; by = inl first; replied = replied_bytes grant g.0 e.0 exchange.call.words exchange.reply g.2.2 })

-- ---- the TGS table

module _ (exchange : ExchangeRecord) where
  abbrev realm_row : EncTicketPartInner → Table (Result EncTicketPartInner ℕ)
  realm_row part = and_then {A = Unit {0}} (client_and_times exchange.call part) (λ _. done (Ok part))

  -- the ticket's client is one of this realm
  ticket_realm : (granting : AccountRecord) (ap_req : ApReqInner) (part : EncTicketPartInner) → (ticket_granting exchange.call granting ap_req).gives (Ok part)
      → is_same_realm part.crealm.0 exchange.call.realm ≡ true
  ticket_realm granting ap_req part x =
      let sealed = ap_req.ticket.0.0.enc_part.0 in
      let key : AccountKeyRecord = chosen sealed granting in
      let fields = both {A = Unit {0}} {T = EncTicketPartInner} (ap_fields exchange.call.realm (krbtgt_of exchange.call.realm) key.kvno ap_req) (λ _. and_then (opened_part key.suite key.key sealed) realm_row) part x in
      let opened = both {A = EncTicketPartInner} {T = EncTicketPartInner} (opened_part key.suite key.key sealed) realm_row part fields.2 in
      let own = both {A = Unit {0}} {T = EncTicketPartInner} (client_and_times exchange.call opened.0) (λ _. done (Ok opened.0)) part opened.2 in
      let realm = passes {T = Unit {0}} (not (is_same_realm opened.0.crealm.0 exchange.call.realm)) 68 (timely (skew_of exchange.call) exchange.call.moment opened.0) tt own.1 in
      subst (λ (p : EncTicketPartInner). is_same_realm p.crealm.0 exchange.call.realm ≡ true) (sym (ok_same part opened.0 own.2)) (is_so (is_same_realm opened.0.crealm.0 exchange.call.realm) realm.0)
    where
      is_so : (b : Bool) → not b ≡ false → b ≡ true
      is_so true e = refl
      is_so false e = sym e

  -- the rows behind the authenticator
  module _ (rows : PkinitRows) (request : KdcReq) (read : IsTgsReq exchange.request request) (ap_req : ApReqInner) (part : EncTicketPartInner) (shown : Authenticated) where
    abbrev key : Option ReplyKeyRecord
    key = reply_key shown.suite part.key.0.key_value.0 (subkey_in shown.authenticator)

    -- what the request's options ask for
    abbrev asked_for : AskedOptions
    asked_for = asked_options exchange.call.settings.policy request.req_body.0.kdc_options.0

    abbrev to_seal : PrincipalName → AccountRecord → Span → CipherSuite → ReplyKeyRecord → Table (Result Bytes ℕ)
    to_seal name service span suite under =
        further_replied exchange.call part name service suite under (further_till asked_for.renews exchange.call.settings.policy.renewable_life part span request.req_body.0) request.req_body.0 span

    abbrev to_key : PrincipalName → AccountRecord → Span → CipherSuite → Table (Result Bytes ℕ)
    to_key name service span suite = need key 31 (to_seal name service span suite)

    abbrev to_suite : PrincipalName → AccountRecord → Span → Table (Result Bytes ℕ)
    to_suite name service span = need (first_granted (without_des3 exchange.call part service) request.req_body.0.etype.0) 14 (to_key name service span)

    abbrev to_service : PrincipalName → AccountRecord → Table (Result Bytes ℕ)
    to_service name service = further exchange.call part shown name service request.req_body.0

    abbrev to_be_unrevoked : AccountRecord → PrincipalName → AccountRecord → Table (Result Bytes ℕ)
    to_be_unrevoked client name service = and_then {A = Unit {0}} (further_allowed exchange.call.moment client service) (λ _. to_service name service)

    abbrev to_named : AccountRecord → PrincipalName → Table (Result Bytes ℕ)
    to_named client name = need (exchange.call.look (components name)) 7 (to_be_unrevoked client name)

    abbrev to_client : AccountRecord → Table (Result Bytes ℕ)
    to_client client = need (service_of request.req_body.0) 7 (to_named client)

    further_granted : (is : IsByTicket exchange.call request ap_req part) → is_same_realm part.crealm.0 exchange.call.realm ≡ true → (authenticated_near exchange.call part ap_req).gives (Ok shown)
        → (of_authenticated exchange.call request.req_body.0 part shown).gives (Ok exchange.reply) → (grant : GrantRecord) × (service : AccountRecord) × IsGranted rows exchange grant service
    further_granted ticket of_realm authenticates x =
        let a = both {A = Unit {0}} {T = Bytes} (covered shown.suite part.key.0.key_value.0 shown.authenticator request.req_body.0) (λ _. tgs_granted exchange.call part shown request.req_body.0) exchange.reply x in
        let b = needed {A = AccountRecord} {T = Bytes} (exchange.call.look (components part.cname.0)) 6 to_client exchange.reply a.2 in
        let c = needed {A = PrincipalName} {T = Bytes} (service_of request.req_body.0) 7 (to_named b.0) exchange.reply b.2 in
        let d = needed {A = AccountRecord} {T = Bytes} (exchange.call.look (components c.0)) 7 (to_be_unrevoked b.0 c.0) exchange.reply c.2 in
        let i = both {A = Unit {0}} {T = Bytes} (further_allowed exchange.call.moment b.0 d.0) (λ _. to_service c.0 d.0) exchange.reply d.2 in
        let lifetime = limited d.0 exchange.call.settings.lifetime in
        let o = both {A = Unit {0}} {T = Bytes} (by_options exchange.call asked_for part c.0) (λ _. further_in asked_for.renews exchange.call part shown c.0 d.0 request.req_body.0) exchange.reply i.2 in
        let e = both {A = Span} {T = Bytes} (further_lasting asked_for.renews lifetime exchange.call.moment part request.req_body.0) (to_suite c.0 d.0) exchange.reply o.2 in
        let f = needed {A = CipherSuite} {T = Bytes} (first_granted (without_des3 exchange.call part d.0) request.req_body.0.etype.0) 14 (to_key c.0 d.0 e.0) exchange.reply e.2 in
        let g = needed {A = ReplyKeyRecord} {T = Bytes} key 31 (to_seal c.0 d.0 e.0 f.0) exchange.reply f.2 in
        let till : Option GeneralizedTime = g.2.0 in
        let grant : GrantRecord = further_grant exchange.call part c.0 f.0 request.req_body.0 e.0 till in
        let is : IsFurther exchange grant g.0 d.0 = record {
          asked = request;
          read = read;
          ap_req = ap_req;
          part = part;
          ticket = ticket;
          of_realm = of_realm;
          shown = shown;
          authenticates = authenticates;
          covers = a.1;
          service_name = c.0;
          service_named = c.1;
          service_found = d.1;
          client = b.0;
          client_found = b.1;
          unrevoked = i.1;
          options = asked_for;
          allows = refl;
          allowed = o.1;
          suite = f.0;
          span = e.0;
          lasts = e.1;
          till = till;
          renews = g.2.1;
          grants = refl;
          replies = g.1;
        } in
        (grant, d.0, record { under = g.0; by = inr is; replied = replied_bytes grant g.0 d.0 exchange.call.words exchange.reply g.2.2 })

by_tgs_table : (rows : PkinitRows) (exchange : ExchangeRecord) (request : KdcReq) → IsTgsReq exchange.request request → (tgs_table exchange.call request).gives (Ok exchange.reply)
    → (grant : GrantRecord) × (service : AccountRecord) × IsGranted rows exchange grant service
by_tgs_table rows exchange request read x =
    let call = exchange.call in
    let body = request.req_body.0 in
    let a = both {A = Unit {0}} {T = Bytes} (to_us call.settings.policy call.realm request) (λ _. and_then (carried (padata_in request)) (of_carried call body)) exchange.reply x in
    let b = both {A = ApReqInner} {T = Bytes} (carried (padata_in request)) (of_carried call body) exchange.reply a.2 in
    let value = by_padata (padata_in request) b.0 b.1 in
    let c = needed {A = AccountRecord} {T = Bytes} (call.look (krbtgt_of call.realm)) 7 (λ granting. and_then (ticket_granting call granting b.0) (of_ticket call body b.0)) exchange.reply b.2 in
    let d = both {A = EncTicketPartInner} {T = Bytes} (ticket_granting call c.0 b.0) (of_ticket call body b.0) exchange.reply c.2 in
    let e = both {A = Authenticated} {T = Bytes} (authenticated_near call d.0 b.0) (of_authenticated call body d.0) exchange.reply d.2 in
    further_granted exchange rows request read b.0 d.0 e.0
    (record { value = value.0; first = value.1; read = value.2; granting = c.0; account = c.1; opens = by_ticket call c.0 b.0 d.0 d.1 })
    (ticket_realm exchange c.0 b.0 d.0 d.1) e.1 e.2

-- ---- the reply

some_same : (a b : Bytes) → Some a ≡ Some b → a ≡ b
some_same a b e = cc (e)

abbrev Grants : PkinitRows → ExchangeRecord → Type 0
Grants rows exchange = (grant : GrantRecord) × (service : AccountRecord) × IsGranted rows exchange grant service

-- by what was judged
by_judged : (rows : PkinitRows) (exchange : ExchangeRecord) (e_data : ℕ → Option Bytes) (request : KdcReq) (table : Table (Result Bytes ℕ)) → (table.gives (Ok exchange.reply) → Grants rows exchange)
    → (r : Result Bytes ℕ) → table.gives r → (reply_of exchange.call e_data request r).gives (Some exchange.reply) → IsGrantOrError rows exchange
by_judged rows exchange e_data request table grants (Ok bytes) judged e =
    inl (grants (subst (λ b. table.gives (Ok b)) (sym (some_same exchange.reply bytes e)) judged))
by_judged rows exchange e_data request table grants (Err code) judged (time, second, e) =
    let call = exchange.call in
    inr (
      error_of call.realm time (call.moment % 1000000) (named_service call.realm (service_of (body_of request))) code (e_data code),
      some_same exchange.reply _ e,
    )

pub grant_or_error : (rows : PkinitRows) (exchange : ExchangeRecord) → Replies exchange.call rows exchange.request (Some exchange.reply) → IsGrantOrError rows exchange
unfolding Replies
grant_or_error rows exchange (inl (request, read, (r, judged, told))) =
    let of_client = account_of exchange.call.look (client_of (body_of request)) in
    let of_service = account_of exchange.call.look (service_of (body_of request)) in
    by_judged rows exchange (e_data_of rows.offered of_client) request (as_table exchange.call rows of_client of_service request) (by_as_table rows exchange request read) r judged told
grant_or_error rows exchange (inr (none, inl (request, read, (r, judged, told)))) =
    by_judged rows exchange (λ code. None) request (tgs_table exchange.call request) (by_tgs_table rows exchange request read) r judged told
grant_or_error rows exchange (inr (none, inr (other, e))) = absurd (cc (e))
