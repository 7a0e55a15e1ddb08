-- Why the tables of a realm that sets no policy are those without one.
use Rattle.std.proofs.Common.{◌≡◌, ℕ, Bool, true, false, ◌&&◌, List, Option, None, Some, Result, Ok, refl, sym, subst, inl, inr}
use Rattle.std.specs.Prelude.{◌||◌}
use Rattle.std.specs.Option.{is_some}
use Rattle.asn1_leaves.specs.GeneralizedTime.{seconds_of}
use Rattle.asn1_leaves.specs.declared.date.GeneralizedTime.{GeneralizedTime}
use Rattle.picky_asn1.specs.BitString.{Bits, bit_of}
use Rattle.krb_crypto.specs.declared.suite.CipherSuite.{CipherSuite}
use Rattle.krb_realm_accounts.specs.Account.{AccountRecord}
use Rattle.krb_realm_accounts.specs.declared.policy.TheConstants.{NO_POLICY}
use Rattle.krb_constants.specs.declared.kdc_options.TheConstants as option
use Rattle.krb_constants.specs.declared.ticket_flags.TheConstants.{PRE_AUTHENT}
use Rattle.krb_tickets.specs.declared.flag_bits.TheConstants as flag
use Rattle.krb_kdc_exchanges.specs.declared.option_bits.TheConstants as option_bit
use Rattle.krb_messages.specs.Names.{components}
use Rattle.krb_messages.specs.Padata.{padata_in}
use Rattle.krb_messages.specs.TicketGranting.{krbtgt_of}
use Rattle.krb_messages.specs.declared.data_types.enc_ticket_part.EncTicketPartInner.{EncTicketPartInner}
use Rattle.krb_messages.specs.declared.data_types.principal_name.PrincipalName.{PrincipalName}
use Rattle.krb_messages.specs.declared.messages.ap_req.ApReqInner.{ApReqInner}
use Rattle.krb_messages.specs.declared.messages.kdc_req.KdcReq.{KdcReq}
use Rattle.krb_messages.specs.declared.messages.kdc_req_body.KdcReqBody.{KdcReqBody}
use Rattle.decision_tables.specs.Tables.{Table, and_then, done, need, refuse}
use Rattle.krb_tickets.specs.Grant.{GrantRecord}
use Rattle.krb_tickets.specs.Parts.{plain_flags}
use Rattle.krb_tickets.specs.ReplyKeys.{ReplyKeyRecord}
use Rattle.krb_ap_requests.specs.declared.presented.Authenticated.{Authenticated}
use Rattle.krb_kdc_exchanges.specs.Allowed.{first_allowed, further_allowed, lifetime_of, limited}
use Rattle.krb_kdc_exchanges.specs.AsTable.{as_table, authenticated, possible}
use Rattle.krb_kdc_exchanges.specs.Before.{plain_as_table, plain_further, plain_granted, plain_initial, plain_tgs_table, without_policy}
use Rattle.krb_kdc_exchanges.specs.Call.{CallRecord}
use Rattle.krb_kdc_exchanges.specs.Granting.{replied}
use Rattle.krb_kdc_exchanges.specs.Grants.{Principals, granted, initial_flags, initial_grant}
use Rattle.krb_kdc_exchanges.specs.Options.{asked_options, has_option_beyond}
use Rattle.krb_kdc_exchanges.specs.Renewals.{IsTill, asked_till, granted_till, renew_till_of}
use Rattle.krb_kdc_exchanges.specs.Requests.{client_of, has_refused_option, header_rows, lasting, service_of}
use Rattle.krb_kdc_exchanges.specs.Rows.{PkinitRows}
use Rattle.krb_kdc_exchanges.specs.TgsTable.{authenticated_near, carried, covered, first_granted, further, further_addresses, further_asked, further_by, further_grant, further_in, further_replied, granted_flags, reply_key, subkey_in, tgs_table, ticket_granting}
use Rattle.krb_kdc_exchanges.specs.declared.options.AskedOptions.{AskedOptions}
use Rattle.krb_kdc_exchanges.specs.declared.span.Span.{Span}
use Rattle.krb_kdc_exchanges.proofs.TgsInvolved.{same_need, same_then}

and_no : (is : Bool) → (is && false) ≡ false
and_no true = refl
and_no false = refl

and_yes : (is : Bool) → (is && true) ≡ is
and_yes true = refl
and_yes false = refl

-- no option is allowed
same_refused : (options : Bits) → has_option_beyond NO_POLICY options ≡ has_refused_option options
same_refused options = λ i.
    and_yes (bit_of options option.FORWARDED) i || and_yes (bit_of options option.PROXY) i || bit_of options option.ENC_TKT_IN_SKEY || and_yes (bit_of options option.RENEW) i
    || bit_of options option.VALIDATE

abbrev no_options : AskedOptions
no_options = record { forwards = false; proxies = false; renews = false }

none_asked : (options : Bits) → asked_options NO_POLICY options ≡ no_options
none_asked options = λ i. record {
  forwards = and_no (bit_of options option.FORWARDED) i;
  proxies = and_no (bit_of options option.PROXY) i;
  renews = and_no (bit_of options option.RENEW) i;
}

-- no renew-till is granted
no_time : (till : Option GeneralizedTime) → IsTill None till → till ≡ None
no_time None is = refl
no_time (Some time) is = absurd (cc (is))

none_granted : (span : Span) (old asked : Option ℕ) → granted_till 0 span old asked ≡ None
none_granted span old None = refl
none_granted span old (Some asked) = refl

no_till : (span : Span) (old asked : Option ℕ) (till : Option GeneralizedTime) → IsTill (granted_till 0 span old asked) till → till ≡ None
no_till span old asked till is = no_time till (subst (λ wanted. IsTill wanted till) (none_granted span old asked) is)

-- and no flag but initial and pre-authent
same_initial_flags : (options : Bits) → initial_flags NO_POLICY options None ≡ plain_flags true true
same_initial_flags options = λ i. record (plain_flags true true) {
  forwardable = and_no (bit_of options option_bit.FORWARDABLE) i;
  proxiable = and_no (bit_of options option_bit.PROXIABLE) i;
}

same_further_flags : (part : EncTicketPartInner) (body : KdcReqBody) → granted_flags NO_POLICY part body None ≡ plain_flags false (bit_of part.flags.0 PRE_AUTHENT)
same_further_flags part body =
    let options : Bits = body.kdc_options.0 in
    let old : Bits = part.flags.0 in
    λ i. record (plain_flags false (bit_of old PRE_AUTHENT)) {
      forwardable = and_no (bit_of options option_bit.FORWARDABLE && bit_of old flag.FORWARDABLE) i;
      forwarded = and_no (bit_of options option.FORWARDED) i || and_no (bit_of old flag.FORWARDED) i;
      proxiable = and_no (bit_of options option_bit.PROXIABLE && bit_of old flag.PROXIABLE) i;
      proxy = and_no (bit_of options option.PROXY) i;
    }

module _ (own : CallRecord) (request : KdcReq) (r : Result (List ℕ) ℕ) where
  abbrev call : CallRecord
  call = without_policy own

  abbrev body : KdcReqBody
  body = request.req_body.0

  -- ---- the AS table

  module _ (principals : Principals) (span : Span) (under : ReplyKeyRecord) where
    same_initial : initial_grant call principals body span None ≡ plain_initial call principals body span
    same_initial = λ i. record (plain_initial call principals body span) { flags = same_initial_flags body.kdc_options.0 i }

    abbrev replies : GrantRecord → Type 0
    replies grant = (replied grant under principals.service call.words).gives r

    initial_plain : (granted call principals under span body).gives r → replies (plain_initial call principals body span)
    initial_plain (till, is, x) =
        let none : till ≡ None = no_till span None (asked_till body) till is in
        subst replies same_initial (subst (λ t. replies (initial_grant call principals body span t)) none x)

    plain_is_initial : replies (plain_initial call principals body span) → (granted call principals under span body).gives r
    plain_is_initial x = (None, sym (none_granted span None (asked_till body)), subst replies (sym same_initial) x)

  module _ (rows : PkinitRows) (of_client of_service : Option AccountRecord) where
    abbrev asked_by : PrincipalName → AccountRecord → PrincipalName → AccountRecord → Principals
    asked_by client_name client service_name service = record { client_name = client_name; client = client; service_name = service_name; service = service }

    -- the rows with either end
    abbrev End : Type 1
    End = Principals → Span → ReplyKeyRecord → Table (Result (List ℕ) ℕ)

    abbrev policy_end : End
    policy_end principals span under = granted call principals under span body

    abbrev plain_end : End
    plain_end principals span under = replied (plain_initial call principals body span) under principals.service call.words

    abbrev to_prove : End → Principals → Span → Table (Result (List ℕ) ℕ)
    to_prove end principals span = and_then (authenticated call rows principals.client (components principals.client_name) request) (end principals span)

    abbrev lifetime : Principals → ℕ
    lifetime principals = lifetime_of call.settings.lifetime principals.client principals.service

    abbrev to_be_possible : End → Principals → Table (Result (List ℕ) ℕ)
    to_be_possible end principals = and_then (possible call (lifetime principals) principals.client.suite body) (to_prove end principals)

    abbrev to_be_allowed : End → Principals → Table (Result (List ℕ) ℕ)
    to_be_allowed end principals = and_then {A = Unit {0}} (first_allowed call.moment principals) (λ _. to_be_possible end principals)

    abbrev by_service : End → PrincipalName → AccountRecord → PrincipalName → AccountRecord → Table (Result (List ℕ) ℕ)
    by_service end client_name client service_name service = to_be_allowed end (asked_by client_name client service_name service)

    abbrev by_service_name : End → PrincipalName → AccountRecord → PrincipalName → Table (Result (List ℕ) ℕ)
    by_service_name end client_name client service_name = need of_service 7 (by_service end client_name client service_name)

    abbrev by_client : End → PrincipalName → AccountRecord → Table (Result (List ℕ) ℕ)
    by_client end client_name client = need (service_of body) 7 (by_service_name end client_name client)

    abbrev by_client_name : End → PrincipalName → Table (Result (List ℕ) ℕ)
    by_client_name end client_name = need of_client 6 (by_client end client_name)

    abbrev to_name : End → Table (Result (List ℕ) ℕ)
    to_name end = need (client_of body) 6 (by_client_name end)

    abbrev of_end : End → Table (Result (List ℕ) ℕ)
    of_end end = and_then {A = Unit {0}} (header_rows 10 call.realm (has_refused_option body.kdc_options.0) request) (λ _. to_name end)

    -- what the one end gives the other one gives
    with_end : (from to : End) → ((principals : Principals) (span : Span) (under : ReplyKeyRecord) → (from principals span under).gives r → (to principals span under).gives r)
        → (of_end from).gives r → (of_end to).gives r
    with_end from to same =
        same_then {A = Unit {0}} (header_rows 10 call.realm (has_refused_option body.kdc_options.0) request) (λ _. to_name from) (λ _. to_name to) r
        (λ _ x.
        same_need (client_of body) (client_of body) refl 6 (by_client_name from) (by_client_name to) r
        (λ client_name a.
        same_need of_client of_client refl 6 (by_client from client_name) (by_client to client_name) r
        (λ client b.
        same_need (service_of body) (service_of body) refl 7 (by_service_name from client_name client) (by_service_name to client_name client) r
        (λ service_name c.
        same_need of_service of_service refl 7 (by_service from client_name client service_name) (by_service to client_name client service_name) r
        (λ service d.
        let principals : Principals = asked_by client_name client service_name service in
        same_then {A = Unit {0}} (first_allowed call.moment principals) (λ _. to_be_possible from principals) (λ _. to_be_possible to principals) r
        (λ _ allowed.
        same_then (possible call (lifetime principals) client.suite body) (to_prove from principals) (to_prove to principals) r
        (λ span e. same_then (authenticated call rows client (components client_name) request) (from principals span) (to principals span) r (λ under f. same principals span under))))))))

    pub as_plain : (as_table call rows of_client of_service request).gives r → (plain_as_table call rows of_client of_service request).gives r
    as_plain = with_end policy_end plain_end initial_plain

    pub plain_as : (plain_as_table call rows of_client of_service request).gives r → (as_table call rows of_client of_service request).gives r
    plain_as = with_end plain_end policy_end plain_is_initial

  -- ---- the TGS table

  module _ (part : EncTicketPartInner) (shown : Authenticated) (name : PrincipalName) (service : AccountRecord) where
    same_further_grant : (suite : CipherSuite) (span : Span) → further_grant call part name suite body span None ≡ plain_further call part name suite body span
    same_further_grant suite span = λ i. record (plain_further call part name suite body span) {
      flags = same_further_flags part body i;
      addresses = further_addresses (none_asked body.kdc_options.0 i) body;
    }

    abbrev key : Option ReplyKeyRecord
    key = reply_key shown.suite part.key.0.key_value.0 (subkey_in shown.authenticator)

    -- the rows behind the options, without a renew-till, and as the policy has it
    abbrev plain_seal : Span → CipherSuite → ReplyKeyRecord → Table (Result (List ℕ) ℕ)
    plain_seal span suite under = replied (plain_further call part name suite body span) under service call.words

    abbrev plain_key : Span → CipherSuite → Table (Result (List ℕ) ℕ)
    plain_key span suite = need key 31 (plain_seal span suite)

    abbrev plain_suite : Span → Table (Result (List ℕ) ℕ)
    plain_suite span = need (first_granted false body.etype.0) 14 (plain_key span)

    abbrev policy_seal : Span → CipherSuite → ReplyKeyRecord → Table (Result (List ℕ) ℕ)
    policy_seal span suite under = further_replied call part name service suite under (granted_till 0 span (renew_till_of part) (further_asked part body)) body span

    abbrev policy_key : Span → CipherSuite → Table (Result (List ℕ) ℕ)
    policy_key span suite = need key 31 (policy_seal span suite)

    abbrev policy_suite : Span → Table (Result (List ℕ) ℕ)
    policy_suite span = need (first_granted false body.etype.0) 14 (policy_key span)

    abbrev lasts : Table (Result Span ℕ)
    lasts = lasting (limited service call.settings.lifetime) call.moment (Some (seconds_of part.endtime.0.0)) body

    abbrev seals : Span → CipherSuite → ReplyKeyRecord → GrantRecord → Type 0
    seals span suite under grant = (replied grant under service call.words).gives r

    seal_plain : (span : Span) (suite : CipherSuite) (under : ReplyKeyRecord) → (policy_seal span suite under).gives r → (plain_seal span suite under).gives r
    seal_plain span suite under (till, is, x) =
        let none : till ≡ None = no_till span (renew_till_of part) (further_asked part body) till is in
        subst (seals span suite under) (same_further_grant suite span) (subst (λ t. seals span suite under (further_grant call part name suite body span t)) none x)

    plain_is_seal : (span : Span) (suite : CipherSuite) (under : ReplyKeyRecord) → (plain_seal span suite under).gives r → (policy_seal span suite under).gives r
    plain_is_seal span suite under x =
        (None, sym (none_granted span (renew_till_of part) (further_asked part body)), subst (seals span suite under) (sym (same_further_grant suite span)) x)

    in_plain : (further_in false call part shown name service body).gives r → (plain_granted call part shown name service body).gives r
    in_plain =
        same_then lasts policy_suite plain_suite r
        (λ span x.
        same_need (first_granted false body.etype.0) (first_granted false body.etype.0) refl 14 (policy_key span) (plain_key span) r
        (λ suite e. same_need key key refl 31 (policy_seal span suite) (plain_seal span suite) r (λ under f. seal_plain span suite under)))

    plain_in : (plain_granted call part shown name service body).gives r → (further_in false call part shown name service body).gives r
    plain_in =
        same_then lasts plain_suite policy_suite r
        (λ span x.
        same_need (first_granted false body.etype.0) (first_granted false body.etype.0) refl 14 (plain_key span) (policy_key span) r
        (λ suite e. same_need key key refl 31 (plain_seal span suite) (policy_seal span suite) r (λ under f. plain_is_seal span suite under)))

    -- where nothing is asked for by options, they refuse nothing
    past_options : (further_by no_options call part shown name service body).gives r → (further_in false call part shown name service body).gives r
    past_options (inl (_, _, x)) = x
    past_options (inr (code, x, e)) = absurd (cc (x))

    further_plain : (further call part shown name service body).gives r → (plain_granted call part shown name service body).gives r
    further_plain x = in_plain (past_options (subst (λ asked. (further_by asked call part shown name service body).gives r) (none_asked body.kdc_options.0) x))

    plain_is_further : (plain_granted call part shown name service body).gives r → (further call part shown name service body).gives r
    plain_is_further x = subst (λ asked. (further_by asked call part shown name service body).gives r) (sym (none_asked body.kdc_options.0)) (inl (tt, refl, plain_in x))

  -- the rows in front, with either end
  abbrev Further : Type 1
  Further = EncTicketPartInner → Authenticated → PrincipalName → AccountRecord → Table (Result (List ℕ) ℕ)

  abbrev by_policy : Further
  by_policy part shown name service = further call part shown name service body

  abbrev by_none : Further
  by_none part shown name service = plain_granted call part shown name service body

  abbrev to_allow : Further → EncTicketPartInner → Authenticated → AccountRecord → PrincipalName → AccountRecord → Table (Result (List ℕ) ℕ)
  to_allow end part shown client name service = and_then {A = Unit {0}} (further_allowed call.moment client service) (λ _. end part shown name service)

  abbrev to_account : Further → EncTicketPartInner → Authenticated → AccountRecord → PrincipalName → Table (Result (List ℕ) ℕ)
  to_account end part shown client name = need (call.look (components name)) 7 (to_allow end part shown client name)

  abbrev to_service : Further → EncTicketPartInner → Authenticated → AccountRecord → Table (Result (List ℕ) ℕ)
  to_service end part shown client = need (service_of body) 7 (to_account end part shown client)

  abbrev to_client : Further → EncTicketPartInner → Authenticated → Table (Result (List ℕ) ℕ)
  to_client end part shown = need (call.look (components part.cname.0)) 6 (to_service end part shown)

  abbrev to_cover : Further → EncTicketPartInner → Authenticated → Table (Result (List ℕ) ℕ)
  to_cover end part shown = and_then {A = Unit {0}} (covered shown.suite part.key.0.key_value.0 shown.authenticator body) (λ _. to_client end part shown)

  abbrev to_show : Further → ApReqInner → EncTicketPartInner → Table (Result (List ℕ) ℕ)
  to_show end ap_req part = and_then (authenticated_near call part ap_req) (to_cover end part)

  abbrev to_ticket : Further → ApReqInner → AccountRecord → Table (Result (List ℕ) ℕ)
  to_ticket end ap_req granting = and_then (ticket_granting call granting ap_req) (to_show end ap_req)

  abbrev to_granting : Further → ApReqInner → Table (Result (List ℕ) ℕ)
  to_granting end ap_req = need (call.look (krbtgt_of call.realm)) 7 (to_ticket end ap_req)

  abbrev for_us : Bool → Table (Result (Unit {0}) ℕ)
  for_us refused = and_then {A = Unit {0}} (header_rows 12 call.realm refused request) (λ _. refuse (is_some body.enc_authorization_data.0) 12 (done (Ok tt)))

  abbrev of_further : Further → Bool → Table (Result (List ℕ) ℕ)
  of_further end refused = and_then {A = Unit {0}} (for_us refused) (λ _. and_then (carried (padata_in request)) (to_granting end))

  with_further : (from to : Further) → ((part : EncTicketPartInner) (shown : Authenticated) (name : PrincipalName) (service : AccountRecord) → (from part shown name service).gives r → (to part shown name service).gives r)
      → (refused : Bool) → (of_further from refused).gives r → (of_further to refused).gives r
  with_further from to same refused =
      same_then {A = Unit {0}} (for_us refused) (λ _. and_then (carried (padata_in request)) (to_granting from)) (λ _. and_then (carried (padata_in request)) (to_granting to)) r
      (λ _ a.
      same_then (carried (padata_in request)) (to_granting from) (to_granting to) r
      (λ ap_req b.
      same_need (call.look (krbtgt_of call.realm)) (call.look (krbtgt_of call.realm)) refl 7 (to_ticket from ap_req) (to_ticket to ap_req) r
      (λ granting c.
      same_then (ticket_granting call granting ap_req) (to_show from ap_req) (to_show to ap_req) r
      (λ part d.
      same_then (authenticated_near call part ap_req) (to_cover from part) (to_cover to part) r
      (λ shown e.
      same_then {A = Unit {0}} (covered shown.suite part.key.0.key_value.0 shown.authenticator body) (λ _. to_client from part shown) (λ _. to_client to part shown) r
      (λ _ f.
      same_need (call.look (components part.cname.0)) (call.look (components part.cname.0)) refl 6 (to_service from part shown) (to_service to part shown) r
      (λ client g.
      same_need (service_of body) (service_of body) refl 7 (to_account from part shown client) (to_account to part shown client) r
      (λ name h.
      same_need (call.look (components name)) (call.look (components name)) refl 7 (to_allow from part shown client name) (to_allow to part shown client name) r
      (λ service j.
      same_then {A = Unit {0}} (further_allowed call.moment client service) (λ _. from part shown name service) (λ _. to part shown name service) r
      (λ _ k. same part shown name service))))))))))

  pub tgs_plain : (tgs_table call request).gives r → (plain_tgs_table call request).gives r
  tgs_plain x =
      subst (λ refused. (of_further by_none refused).gives r) (same_refused body.kdc_options.0) (with_further by_policy by_none further_plain (has_option_beyond NO_POLICY body.kdc_options.0) x)

  pub plain_tgs : (plain_tgs_table call request).gives r → (tgs_table call request).gives r
  plain_tgs x =
      subst (λ refused. (of_further by_policy refused).gives r) (sym (same_refused body.kdc_options.0))
      (with_further by_none by_policy plain_is_further (has_refused_option body.kdc_options.0) x)
