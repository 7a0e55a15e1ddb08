-- The realm grants the first ticket that an honest client asks for, with options or without: each row of the AS table is passed.
use Rattle.std.proofs.Common.{◌≡◌, ℕ, true, false, not, List, [], ◌∷◌, Option, None, Some, Result, Ok, refl, sym, ap, ◌∙◌, subst}
use Rattle.std.proofs.lemmas.Bool.{or_left}
use Rattle.std.specs.Prelude.{pos}
use Rattle.asn1_leaves.specs.declared.date.GeneralizedTime.{GeneralizedTime}
use Rattle.picky_asn1.specs.Bytes.{Bytes}
use Rattle.asn1_leaves.specs.GeneralizedTime.{seconds_of}
use Rattle.krb_time.specs.Units.{Micros, Seconds}
use Rattle.krb_crypto.specs.declared.suite.CipherSuite.{CipherSuite}
use Rattle.krb_crypto.specs.Suites.{cipher_number}
use Rattle.picky_asn1.specs.Numbers.{is_number}
use Rattle.krb_messages.specs.Names.{components, is_same_realm}
use Rattle.krb_messages.specs.RandomBytes.{Random}
use Rattle.krb_messages.specs.Refusals.{Code}
use Rattle.krb_messages.specs.declared.data_types.pa_data.PaData.{PaData}
use Rattle.krb_messages.specs.declared.data_types.principal_name.PrincipalName.{PrincipalName}
use Rattle.krb_messages.specs.Messages.{IsAsReq, IsTgsReq, sole_as_req, sole_tgs_req}
use Rattle.krb_messages.specs.declared.messages.kdc_req.KdcReq.{KdcReq}
use Rattle.krb_messages.specs.declared.messages.kdc_req_body.KdcReqBody.{KdcReqBody}
use Rattle.krb_realm_accounts.specs.Account.{AccountRecord}
use Rattle.krb_kdc_exchanges.specs.Rows.{PkinitRows}
use Rattle.decision_tables.specs.Some.{HasSome}
use Rattle.decision_tables.specs.Tables.{Table, and_then, ask, done, need, refuse}
use Rattle.krb_tickets.specs.Sealing.{is_own_number}
use Rattle.krb_tickets.specs.Grant.{GrantRecord}
use Rattle.krb_tickets.specs.Parts.{session_key_of}
use Rattle.krb_tickets.specs.ReplyKeys.{ReplyKeyRecord}
use Rattle.krb_tickets.specs.Granted.{IsTicketReply}
use Rattle.krb_kdc_exchanges.proofs.PlainAccounts.{first_plain, lifetime_plain}
use Rattle.krb_kdc_exchanges.specs.Allowed.{first_allowed, lifetime_of}
use Rattle.krb_kdc_exchanges.specs.AsTable.{as_table, authenticated, is_later, is_listed, possible}
use Rattle.krb_kdc_exchanges.specs.Call.{CallRecord}
use Rattle.krb_kdc_exchanges.specs.Grants.{Principals, granted, initial_grant, initial_till}
use Rattle.krb_kdc_exchanges.specs.Times.{start_of}
use Rattle.krb_kdc_exchanges.specs.Requests.{IsSpan, account_of, has_refused_option, header_rows, client_of, is_ended, is_postdated, lasting, lasting_to, service_of}
use Rattle.krb_kdc_exchanges.specs.Renewals.{IsTill}
use Rattle.krb_messages.specs.TicketGranting.{krbtgt_of}
use Rattle.krb_kdc_exchanges.specs.declared.span.Span.{Span}
use Rattle.krb_kdc_exchanges.specs.Replies.{Replies, as_reply, e_data_of, reply_of, tgs_reply}
use Rattle.krb_client.specs.AsRequest.{AsksAsWith, as_body_with, as_request_of}
use Rattle.krb_client.specs.Client.{ClientRecord}
use Rattle.krb_client.specs.Held.{principal_name}
use Rattle.krb_client.specs.Means.{MeansRecord}
use Rattle.krb_client.specs.Options.{options_of, plain_options}
use Rattle.krb_client.specs.declared.options.TicketOptions.{TicketOptions}
use Rattle.krb_client.proofs.PlainOptions.{as_plain}
use Rattle.krb_logins.specs.Authenticated.{IsAgreedKey, first_asked}
use Rattle.krb_logins.specs.Held.{IsFirstSpan}
use Rattle.krb_logins.specs.Honest.{first_end}
use Rattle.krb_logins.specs.Laws.{AreBytes, IsFirstGranted, IsMet}
use Rattle.krb_logins.specs.Parties.{LoginRecord, RealmRecord, RememberedRecord, call_at}
use Rattle.krb_logins.specs.Tickets.{AreOfOneRealm, IsAsHonest, IsFirstTill, as_body_asked, first_grant_with}
use Rattle.krb_service.specs.Service.{ServiceRecord}
use Rattle.krb_logins.proofs.AskedBits.{none_refused, not_postdated}
use Rattle.krb_logins.proofs.Giving.{by_refuse, past_found}
use Rattle.krb_logins.proofs.MetParts.{as_honest, one_realm}
use Rattle.krb_logins.proofs.Names.{component_texts, granting_texts, realm_text, same_realm}
use Rattle.krb_logins.proofs.Passing.{past_ask, past_need, past_refuse, past_then}
use Rattle.krb_logins.proofs.Replying.{replies_at}
use Rattle.krb_logins.proofs.Times.{granted_in_time, lasts}
use Rattle.krb_logins.proofs.WholeRequests.{as_request_with_written}

-- what there is of time for a ticket that has not ended
pub found_to : (lifetime : Seconds) (moment : Micros) (old : Option Seconds) (till : Seconds) → ((span : Span) → IsSpan lifetime moment old till span → is_ended span ≡ false)
    → (r : Result Span ℕ) → (lasting_to lifetime moment old till).gives r → (span : Span) × IsSpan lifetime moment old till span × (r ≡ Ok span)
found_to lifetime moment old till not_ended r x =
    (x.0, x.1, past_refuse {T = Span} {E = ℕ} (is_ended x.0) 11 (done (Ok x.0)) r (not_ended x.0 x.1) x.2)

pub found_lasting : (lifetime : Seconds) (moment : Micros) (old : Option Seconds) (body : KdcReqBody)
    → ((span : Span) → IsSpan lifetime moment old (seconds_of body.till.0.0) span → is_ended span ≡ false)
    → (r : Result Span ℕ) → (lasting lifetime moment old body).gives r → (span : Span) × IsSpan lifetime moment old (seconds_of body.till.0.0) span × (r ≡ Ok span)
found_lasting lifetime moment old body = found_to lifetime moment old (seconds_of body.till.0.0)

module _ (call : CallRecord) (suite : CipherSuite) (body : KdcReqBody) where
  abbrev in_suite : Span → Table (Result Span ℕ)
  in_suite span = refuse (not (is_listed suite body)) 14 (done (Ok span))

  found_possible : is_later call body ≡ false → is_listed suite body ≡ true
      → ((span : Span) → IsSpan call.settings.lifetime call.moment None (seconds_of body.till.0.0) span → is_ended span ≡ false)
      → (r : Result Span ℕ) → (possible call call.settings.lifetime suite body).gives r
      → (span : Span) × IsSpan call.settings.lifetime call.moment None (seconds_of body.till.0.0) span × (r ≡ Ok span)
  found_possible later listed not_ended r x =
      let timely = past_refuse {T = Span} {E = ℕ} (is_later call body) 10 (and_then (lasting call.settings.lifetime call.moment None body) in_suite) r later x in
      let own = past_found {A = Span} {T = Span} (IsSpan call.settings.lifetime call.moment None (seconds_of body.till.0.0)) (lasting call.settings.lifetime call.moment None body) in_suite r
      (found_lasting call.settings.lifetime call.moment None body not_ended) timely in
      (own.0, own.1, past_refuse {T = Span} {E = ℕ} (not (is_listed suite body)) 14 (done (Ok own.0)) r (ap not listed) own.2)

-- seconds of none are no time's
pub no_time : (till : Option GeneralizedTime) → IsTill None till → till ≡ None
no_time None is = refl
no_time (Some time) is = absurd (cc (is))

-- what a request is granted that no row refuses, under a reply key of which this holds
record IsGrantedBy (IsKey : ReplyKeyRecord → Type 0) (call : CallRecord) (asked : Principals) (body : KdcReqBody) (r : Result Bytes Code) : Type 0 where
  span : Span
  lasting : IsSpan call.settings.lifetime call.moment None (seconds_of body.till.0.0) span
  under : ReplyKeyRecord
  is_key : IsKey under
  till : Option GeneralizedTime
  renews : IsTill (initial_till call span body) till
  bytes : Bytes
  replied : IsTicketReply (initial_grant call asked body span till) under asked.service call.words bytes
  is : r ≡ Ok bytes

-- the rows, from the last one on
module _ (IsKey : ReplyKeyRecord → Type 0) (call : CallRecord) (rows : PkinitRows) (of_client of_service : Option AccountRecord) (request : KdcReq) where
  abbrev asked_by : PrincipalName → AccountRecord → PrincipalName → AccountRecord → Principals
  asked_by client_name client service_name service = record { client_name = client_name; client = client; service_name = service_name; service = service }

  abbrev to_grant : Principals → Span → Table (Result Bytes ℕ)
  to_grant asked span =
      and_then (authenticated call rows asked.client (components asked.client_name) request) (λ under. granted call asked under span request.req_body.0)

  -- how long a ticket lasts at most
  abbrev lifetime : Principals → Seconds
  lifetime asked = lifetime_of call.settings.lifetime asked.client asked.service

  abbrev to_be_possible : Principals → Table (Result Bytes ℕ)
  to_be_possible asked = and_then (possible call (lifetime asked) asked.client.suite request.req_body.0) (to_grant asked)

  abbrev to_be_allowed : Principals → Table (Result Bytes ℕ)
  to_be_allowed asked = and_then {A = Unit {0}} (first_allowed call.moment asked) (λ _. to_be_possible asked)

  abbrev by_service : PrincipalName → AccountRecord → PrincipalName → AccountRecord → Table (Result Bytes ℕ)
  by_service client_name client service_name service = to_be_allowed (asked_by client_name client service_name service)

  abbrev by_service_name : PrincipalName → AccountRecord → PrincipalName → Table (Result Bytes ℕ)
  by_service_name client_name client service_name = need of_service 7 (by_service client_name client service_name)

  abbrev by_client : PrincipalName → AccountRecord → Table (Result Bytes ℕ)
  by_client client_name client = need (service_of request.req_body.0) 7 (by_service_name client_name client)

  abbrev by_client_name : PrincipalName → Table (Result Bytes ℕ)
  by_client_name client_name = need of_client 6 (by_client client_name)

  abbrev to_name : Table (Result Bytes ℕ)
  to_name = need (client_of request.req_body.0) 6 by_client_name

  granted_by : (asked : Principals) (r : Result Bytes ℕ)
      → (header_rows 10 call.realm (has_refused_option request.req_body.0.kdc_options.0) request).gives (Ok tt)
      → client_of request.req_body.0 ≡ Some asked.client_name → of_client ≡ Some asked.client
      → service_of request.req_body.0 ≡ Some asked.service_name → of_service ≡ Some asked.service
      → (first_allowed call.moment asked).gives (Ok tt)
      → ((s : Result Span ℕ) → (possible call (lifetime asked) asked.client.suite request.req_body.0).gives s
      → (span : Span) × IsSpan call.settings.lifetime call.moment None (seconds_of request.req_body.0.till.0.0) span × (s ≡ Ok span))
      → ((s : Result ReplyKeyRecord ℕ) → (authenticated call rows asked.client (components asked.client_name) request).gives s
      → (under : ReplyKeyRecord) × IsKey under × (s ≡ Ok under))
      → (as_table call rows of_client of_service request).gives r → IsGrantedBy IsKey call asked request.req_body.0 r
  granted_by asked r for_us client_name client service_name service allowed can_be can_show x =
      let a = past_then {A = Unit {0}} {T = Bytes} (header_rows 10 call.realm (has_refused_option request.req_body.0.kdc_options.0) request) (λ _. to_name) tt r for_us x in
      let b = past_need {T = Bytes} {E = ℕ} (client_of request.req_body.0) 6 by_client_name asked.client_name r client_name a in
      let c = past_need {T = Bytes} {E = ℕ} of_client 6 (by_client asked.client_name) asked.client r client b in
      let d = past_need {T = Bytes} {E = ℕ} (service_of request.req_body.0) 7 (by_service_name asked.client_name asked.client) asked.service_name r service_name c in
      let e = past_need {T = Bytes} {E = ℕ} of_service 7 (by_service asked.client_name asked.client asked.service_name) asked.service r service d in
      let i = past_then {A = Unit {0}} {T = Bytes} (first_allowed call.moment asked) (λ _. to_be_possible asked) tt r allowed e in
      let f = past_found {A = Span} {T = Bytes} (IsSpan call.settings.lifetime call.moment None (seconds_of request.req_body.0.till.0.0))
      (possible call (lifetime asked) asked.client.suite request.req_body.0) (to_grant asked) r can_be i in
      let g = past_found {A = ReplyKeyRecord} {T = Bytes} IsKey (authenticated call rows asked.client (components asked.client_name) request)
      (λ under. granted call asked under f.0 request.req_body.0) r can_show f.2 in
      record {
        span = f.0;
        lasting = f.1;
        under = g.0;
        is_key = g.1;
        till = g.2.0;
        renews = g.2.1;
        bytes = g.2.2.0;
        replied = g.2.2.1;
        is = g.2.2.2;
      }

-- the suite that the client takes is its account's
listed : (client : ClientRecord) (options : TicketOptions) (service : List Bytes) (till : GeneralizedTime) (words : Random) (suite : CipherSuite) → suite ≡ client.suite
    → is_listed suite (as_body_with client (client.suite ∷ []) options service till words) ≡ true
listed client options service till words suite same =
    subst (λ s. is_listed s (as_body_with client (client.suite ∷ []) options service till words) ≡ true) (sym same)
    (or_left (is_number (cipher_number client.suite) (pos (cipher_number client.suite))) false (is_own_number client.suite))

-- the request's type and options are as they are to be, and its realm is this one
for_realm : (padata : PaData) (client : ClientRecord) (options : TicketOptions) (service : List Bytes) (till : GeneralizedTime) (words : Random) (realm : Bytes) → options.forwards ≡ false → options.renews ≡ false → client.realm ≡ realm
    → (header_rows 10 realm (has_refused_option (options_of options)) (as_request_of padata (as_body_with client (client.suite ∷ []) options service till words))).gives (Ok tt)
for_realm padata client options service till words realm not_forwarded not_renewed same =
    let refused = has_refused_option (options_of options) in
    let postdated = is_postdated (options_of options) in
    by_refuse {T = Unit {0}} {E = ℕ} (not (is_same_realm client.realm realm)) 68 (refuse refused 13 (refuse postdated 10 (done (Ok tt)))) (Ok tt) (ap not (same_realm client.realm realm same))
    (by_refuse {T = Unit {0}} {E = ℕ} refused 13 (refuse postdated 10 (done (Ok tt))) (Ok tt) (none_refused options not_forwarded not_renewed)
    (by_refuse {T = Unit {0}} {E = ℕ} postdated 10 (done (Ok tt)) (Ok tt) (not_postdated options) refl))

-- a realm replies to an AS request by its table
replied_to : (call : CallRecord) (rows : PkinitRows) (bytes : Bytes) (reply : Option Bytes) (request : KdcReq) → IsAsReq bytes request → Replies call rows bytes reply
    → (as_reply call rows (account_of call.look (client_of request.req_body.0)) (account_of call.look (service_of request.req_body.0)) request).gives reply
unfolding Replies
replied_to call rows bytes reply request is x =
    past_ask (IsAsReq bytes) (sole_as_req bytes) (ask (IsTgsReq bytes) (sole_tgs_req bytes) (done None) (tgs_reply call))
    (λ v. as_reply call rows (account_of call.look (client_of v.req_body.0)) (account_of call.look (service_of v.req_body.0)) v) request reply is x

-- what the table grants is the reply
granted_reply : (IsKey : ReplyKeyRecord → Type 0) (call : CallRecord) (rows : PkinitRows) (of_client of_service : Option AccountRecord) (request : KdcReq) (asked : Principals) (reply : Option Bytes)
    → ((r : Result Bytes ℕ) → (as_table call rows of_client of_service request).gives r → IsGrantedBy IsKey call asked request.req_body.0 r)
    → (as_reply call rows of_client of_service request).gives reply
    → (r : Result Bytes ℕ) × (is : IsGrantedBy IsKey call asked request.req_body.0 r) × (reply ≡ Some is.bytes)
granted_reply IsKey call rows of_client of_service request asked reply grants x =
    let is = grants x.0 x.1 in
    (x.0, is, subst (λ r. (reply_of call (e_data_of rows.offered of_client) request r).gives reply) is.is x.2)

-- the realm's reply grants the first ticket, under a key that both agree on
pub record IsFirstGrantedBy (client : ClientRecord) (options : TicketOptions) (means : MeansRecord) (realm : RealmRecord) (login : LoginRecord) (account : AccountRecord) (reply : Option Bytes) : Type 0 where
  pub span : Span
  pub lasts : IsFirstSpan realm login span
  pub till : Option GeneralizedTime
  pub renews : IsFirstTill client options realm login span till
  pub under : ReplyKeyRecord
  pub agreed : IsAgreedKey client means (first_asked client login) under
  pub bytes : Bytes
  pub is : reply ≡ Some bytes
  pub replied : IsTicketReply (first_grant_with client options realm login span till) under account login.realm_words_as bytes

module _ (client : ClientRecord) (options : TicketOptions) (means : MeansRecord) (realm : RealmRecord) (rows : PkinitRows) (login : LoginRecord)
    (one : AreOfOneRealm client realm) (honest : IsAsHonest client options means realm rows one.known.account login) where
  abbrev call : CallRecord
  call = call_at realm login.realm_as login.realm_words_as

  abbrev asked : Principals
  asked = record {
    client_name = principal_name 1 client.components;
    client = one.known.account;
    service_name = principal_name 2 (krbtgt_of client.realm);
    service = honest.granting.account;
  }

  abbrev body : KdcReqBody
  body = as_body_asked client options login

  abbrev request_with : PaData → KdcReq
  request_with padata = as_request_of padata body

  granting_found : realm.look (krbtgt_of client.realm) ≡ Some honest.granting.account
  granting_found = ap (λ name. realm.look (krbtgt_of name)) one.same ∙ honest.granting.found

  not_ended : (span : Span) → IsFirstSpan realm login span → is_ended span ≡ false
  not_ended span is = lasts (start_of login.realm_as) (first_end realm login) span is.starts is.ends honest.lasts

  -- nobody sets an attribute for the accounts, so that no row of these refuses, and the ticket lasts as long as the realm's settings allow
  allowed : (first_allowed login.realm_as asked).gives (Ok tt)
  allowed = first_plain login.realm_as asked one.free honest.granting_free

  abbrev own_lifetime : Seconds
  own_lifetime = lifetime_of realm.settings.lifetime asked.client asked.service

  lifetime_is : own_lifetime ≡ realm.settings.lifetime
  lifetime_is = lifetime_plain realm.settings.lifetime asked.client asked.service one.free honest.granting_free

  can_be : (r : Result Span ℕ) → (possible call own_lifetime asked.client.suite body).gives r → (span : Span) × IsFirstSpan realm login span × (r ≡ Ok span)
  can_be r x =
      found_possible call asked.client.suite body refl (listed client options (krbtgt_of client.realm) login.till login.words_as asked.client.suite one.known.suite) not_ended r
      (subst (λ n. (possible call n asked.client.suite body).gives r) lifetime_is x)

  abbrev IsAgreed : ReplyKeyRecord → Type 0
  IsAgreed under = IsAgreedKey client means (first_asked client login) under

  can_show : (padata : PaData) → means.asks body login.client_as login.words_as padata
      → (r : Result ReplyKeyRecord ℕ) → (authenticated call rows asked.client client.components (request_with padata)).gives r → (under : ReplyKeyRecord) × IsAgreed under × (r ≡ Ok under)
  can_show padata it r x = let own = honest.authenticated.shown padata it r x in (own.0, own.2, own.1)

  grants : (padata : PaData) → means.asks body login.client_as login.words_as padata
      → (r : Result Bytes ℕ) → (as_table call rows (realm.look client.components) (realm.look (krbtgt_of client.realm)) (request_with padata)).gives r → IsGrantedBy IsAgreed call asked body r
  grants padata it r x =
      granted_by IsAgreed call rows (realm.look client.components) (realm.look (krbtgt_of client.realm)) (request_with padata) asked r
      (for_realm padata client options (krbtgt_of client.realm) login.till login.words_as realm.name honest.not_forwarded honest.not_renewed one.same)
      refl one.known.found refl granting_found allowed can_be (can_show padata it) x

  -- with the client's suite in place of its account's
  abbrev grant_in : Span → Option GeneralizedTime → CipherSuite → GrantRecord
  grant_in span till suite = record (first_grant_with client options realm login span till) { suite = suite; session = session_key_of suite login.realm_words_as }

  pub granted_first : (request : Bytes) → AsksAsWith client (client.suite ∷ []) options means (krbtgt_of client.realm) login.till login.client_as login.words_as request
      → (AreBytes login.realm_words_as request → HasSome (Replies call rows request))
      × ((reply : Option Bytes) → Replies call rows request reply → IsFirstGrantedBy client options means realm login honest.granting.account reply)
  granted_first request asks = (
    λ are.
        replies_at realm rows login.realm_as login.realm_words_as request one.keyed
        (granted_in_time realm.settings.lifetime login.realm_as None (seconds_of login.till) honest.lasts) honest.enough are,
    λ reply replied.
        let written = as_request_with_written asks.padata client (client.suite ∷ []) options (krbtgt_of client.realm) login.till login.words_as request
        (realm_text client.realm one.realm_name) (component_texts client.components one.name) (granting_texts client.realm one.realm_name) asks.encoding in
        let found = granted_reply IsAgreed call rows (realm.look client.components) (realm.look (krbtgt_of client.realm)) (request_with asks.padata) asked reply (grants asks.padata asks.shown)
        (replied_to call rows request reply (request_with asks.padata) written replied) in
        record {
          span = found.1.span;
          lasts = found.1.lasting;
          till = found.1.till;
          renews = found.1.renews;
          under = found.1.under;
          agreed = found.1.is_key;
          bytes = found.1.bytes;
          is = found.2;
          replied = subst (λ suite. IsTicketReply (grant_in found.1.span found.1.till suite) found.1.under asked.service login.realm_words_as found.1.bytes) one.known.suite found.1.replied;
        },
  )

-- a plain ticket is asked for without options
pub first_granted : (client : ClientRecord) (means : MeansRecord) (realm : RealmRecord) (rows : PkinitRows) (service : ServiceRecord) (before : RememberedRecord) (login : LoginRecord)
    (met : IsMet client means realm rows service before login) → IsFirstGranted client means realm rows service before login met
unfolding IsFirstGranted
first_granted client means realm rows service before login met request asks =
    let own = granted_first client plain_options means realm rows login (one_realm client means realm rows service before login met) (as_honest client means realm rows service before login met) request (as_plain asks) in (
      own.0,
      λ reply replied.
          let it = own.1 reply replied in
          let none : it.till ≡ None = no_time it.till it.renews in
          let plain = subst (λ till. IsTicketReply (first_grant_with client plain_options realm login it.span till) it.under met.granting.account login.realm_words_as it.bytes) none it.replied in
          (it.span, it.lasts, (it.under, it.agreed, (it.bytes, it.is, plain))),
    )
