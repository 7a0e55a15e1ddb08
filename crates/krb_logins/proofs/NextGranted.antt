-- By a ticket-granting ticket that the client holds, the realm grants the ticket that an honest client asks for. Each row of the TGS table
-- is passed.
use Rattle.std.proofs.Common.{◌≡◌, ◌<◌, ℕ, ◌-◌, ◌/◌, ◌%◌, true, false, not, ◌&&◌, List, [], ◌∷◌, Option, None, Some, Result, Ok, Err, inl, refl, sym, ap, subst, ◌∙◌, get_or, arith}
use Rattle.std.proofs.lemmas.Bool.{and_from, eq-eqb, eqb-true, lt-leb}
use Rattle.std.specs.Option.{is_some, option_map, option_map_or}
use Rattle.std.specs.Prelude.{Bool, ◌||◌, ℤ, if◌then◌else◌, nat_le, pos}
use Rattle.asn1_der.specs.Length.{element}
use Rattle.asn1_leaves.specs.CharSets.{is_general_string}
use Rattle.asn1_leaves.specs.declared.date.GeneralizedTime.{GeneralizedTime}
use Rattle.picky_asn1.specs.BitString.{bit_of}
use Rattle.picky_asn1.specs.Bytes.{Bytes}
use Rattle.asn1_leaves.specs.GeneralizedTime.{seconds_of}
use Rattle.picky_asn1.specs.Numbers.{is_number}
use Rattle.krb_time.specs.Moment.{IsMoment}
use Rattle.krb_time.specs.Skew.{is_far}
use Rattle.krb_time.specs.Times.{moment_at}
use Rattle.krb_time.specs.Units.{Seconds}
use Rattle.krb_crypto.specs.declared.suite.CipherSuite.{CipherSuite}
use Rattle.krb_crypto.specs.Sealing.{IsSealedBy, checksum_of}
use Rattle.krb_crypto.specs.Suites.{checksum_number, cipher_checksum, cipher_confounder_size, cipher_number}
use Rattle.krb_crypto.proofs.AllSuites.{some_checksum, suite_found}
use Rattle.krb_crypto.proofs.SealingLemmas.{same_suite}
use Rattle.krb_messages.specs.Names.{components, is_same_name, is_same_realm}
use Rattle.krb_messages.specs.RandomBytes.{Random, authenticator_confounder, ticket_confounder}
use Rattle.krb_messages.specs.declared.data_types.authenticator.AuthenticatorInner.{AuthenticatorInner}
use Rattle.krb_messages.specs.declared.data_types.checksum.Checksum.{Checksum}
use Rattle.krb_messages.specs.declared.data_types.enc_ticket_part.EncTicketPartInner.{EncTicketPartInner}
use Rattle.krb_messages.specs.declared.data_types.host_address.HostAddress.{HostAddress}
use Rattle.krb_messages.specs.declared.data_types.principal_name.PrincipalName.{PrincipalName}
use Rattle.krb_messages.specs.declared.messages.ap_req.ApReqInner.{ApReqInner}
use Rattle.krb_messages.specs.declared.messages.kdc_req.KdcReq.{KdcReq}
use Rattle.krb_messages.specs.declared.messages.kdc_req_body.KdcReqBody.{KdcReqBody}
use Rattle.krb_messages.specs.Messages.{IsApReq, IsAsReq, IsTgsReq, enc_ticket_part_tree, sole_ap_req, sole_as_req, sole_tgs_req}
use Rattle.krb_realm_accounts.specs.Account.{AccountKeyRecord, AccountRecord, newest}
use Rattle.krb_realm_accounts.specs.declared.policy.Policy.{Policy}
use Rattle.decision_tables.specs.Some.{HasSome}
use Rattle.decision_tables.specs.Tables.{Table, and_then, ask, done, need, refuse}
use Rattle.krb_tickets.specs.Keys.{suite_of}
use Rattle.krb_tickets.specs.Sealing.{encryption_key, is_own_number, sealed_opens}
use Rattle.krb_messages.specs.Padata.{first_of, first_padata, padata_in}
use Rattle.krb_tickets.specs.Grant.{GrantRecord}
use Rattle.krb_tickets.specs.Parts.{flags_of, session_key_of, tagged_till, ticket_part}
use Rattle.krb_tickets.specs.ReplyKeys.{ReplyKeyRecord, tgs_reply_key}
use Rattle.krb_tickets.specs.Sealed.{ticket_part_bytes}
use Rattle.krb_kdc_exchanges.specs.Times.{asked_end, end_of, last_second, no_end, start_of}
use Rattle.krb_tickets.specs.Granted.{IsTicketReply}
use Rattle.krb_ap_requests.specs.ApTable.{ap_fields, is_early, is_for, is_late, kvno_fits, opened, opened_part, timely, authenticator_time}
use Rattle.krb_ap_requests.specs.Entry.{EntryRecord}
use Rattle.krb_ap_requests.specs.Messages.{IsAuthenticator, IsTicketPart, sole_authenticator, sole_ticket_part}
use Rattle.krb_ap_requests.specs.Presents.{request_of}
use Rattle.krb_ap_requests.specs.declared.presented.Authenticated.{Authenticated}
use Rattle.krb_kdc_exchanges.specs.Rows.{PkinitRows}
use Rattle.krb_kdc_exchanges.specs.Allowed.{further_allowed, limited}
use Rattle.krb_kdc_exchanges.specs.Call.{CallRecord, skew_of}
use Rattle.krb_kdc_exchanges.specs.Options.{asked_options, grants_renewable, has_option_beyond}
use Rattle.krb_kdc_exchanges.specs.Renewals.{IsTill, is_outlived, is_renewable}
use Rattle.krb_kdc_exchanges.specs.declared.options.AskedOptions.{AskedOptions}
use Rattle.krb_kdc_exchanges.specs.Requests.{account_of, client_of, is_postdated, lasting_to, service_of}
use Rattle.krb_messages.specs.Bodies.{body_bytes}
use Rattle.krb_messages.specs.TicketGranting.{krbtgt_of}
use Rattle.krb_kdc_exchanges.specs.declared.span.Span.{Span}
use Rattle.krb_kdc_exchanges.proofs.KeyChoice.{newest_fits}
use Rattle.krb_kdc_exchanges.proofs.PlainAccounts.{further_plain, limited_plain}
use Rattle.krb_kdc_exchanges.specs.TgsTable as table
use Rattle.krb_kdc_exchanges.specs.TgsTable.{carried, client_and_times, covered, further, granting_by, is_known_checksum, is_of_body, of_carried, of_authenticated, of_ticket, authenticated_near, tgs_granted, tgs_table, ticket_granting, to_us}
use Rattle.krb_kdc_exchanges.specs.Replies.{Replies, as_reply, reply_of, tgs_reply}
use Rattle.krb_client.specs.Authenticators.{IsApRequest, authenticator_with, authenticator_parts_of}
use Rattle.krb_client.specs.Client.{ClientRecord, CredentialRecord}
use Rattle.krb_client.specs.Held.{principal_name}
use Rattle.krb_client.specs.Messages.{authenticator_bytes, tgs_request_bytes}
use Rattle.krb_client.specs.Options.{options_of}
use Rattle.krb_client.specs.Requests.{nonce_of}
use Rattle.krb_tickets.specs.MethodData.{pa_data_of}
use Rattle.krb_client.specs.TgsRequest.{AsksTgsWith, checksum_over, further_request_with}
use Rattle.krb_client.specs.declared.options.TicketOptions.{TicketOptions}
use Rattle.krb_logins.specs.Laws.{AreBytes}
use Rattle.krb_logins.specs.Parties.{RealmRecord, TgsRecord, call_at}
use Rattle.krb_logins.specs.Tickets.{AreOfOneRealm, HoldsGranting, IsNextSpan, IsRenewable, IsTgsHonest, end_by, next_grant, tgs_body, ticket_for}
use Rattle.krb_logins.proofs.AskedBits.{asked_by, asked_so, none_beyond, none_either, not_beyond, not_postdated}
use Rattle.krb_logins.proofs.FirstGranted.{found_lasting, found_to}
use Rattle.krb_logins.proofs.Giving.{by_ask, by_need, by_refuse, past_found}
use Rattle.krb_logins.proofs.GrantTaken.{session_key_sized, suite_of_key}
use Rattle.krb_logins.proofs.LastSecond.{second_below}
use Rattle.krb_logins.proofs.Names.{component_texts, granting_texts, own_name, own_realm, realm_text, same_name, same_realm}
use Rattle.krb_logins.proofs.Passing.{past_ask, past_need, past_none, past_then}
use Rattle.krb_logins.proofs.PresentedRuns.{choice_of, written}
use Rattle.krb_logins.proofs.Replying.{replies_at}
use Rattle.krb_logins.proofs.TicketTimes.{not_early, not_late}
use Rattle.krb_logins.proofs.Times.{before_end, granted_in_time, lasts, moment_told}
use Rattle.krb_logins.proofs.WholePresented.{whole_authenticator, whole_part}
use Rattle.krb_logins.proofs.WholeRequests.{tgs_request_with_written}

-- a TGS request is no AS request
no_as_request : (content bytes : Bytes) → bytes ≡ element 108 content → (request : KdcReq) → IsAsReq bytes request → ⊥
unfolding element
no_as_request content bytes e request is = let first = ap (λ b. get_or b 0 0) (sym e ∙ is.1) in omega (arith, first)

-- the request's type and options are as they are to be, and its realm is this one
for_realm : (client : ClientRecord) (options : TicketOptions) (service : List Bytes) (till : GeneralizedTime) (nonce : ℕ) (shown : Bytes) (policy : Policy) (realm : Bytes)
    → has_option_beyond policy (options_of options) ≡ false → client.realm ≡ realm
    → (to_us policy realm (further_request_with client (client.suite ∷ []) options service till nonce shown)).gives (Ok tt)
for_realm client options service till nonce shown policy realm allowed same =
    let beyond = has_option_beyond policy (options_of options) in
    let postdated = is_postdated (options_of options) in
    inl (
      tt,
      by_refuse {T = Unit {0}} {E = ℕ} (not (is_same_realm client.realm realm)) 68 (refuse beyond 13 (refuse postdated 10 (done (Ok tt)))) (Ok tt) (ap not (same_realm client.realm realm same))
          (by_refuse {T = Unit {0}} {E = ℕ} beyond 13 (refuse postdated 10 (done (Ok tt))) (Ok tt) allowed
          (by_refuse {T = Unit {0}} {E = ℕ} postdated 10 (done (Ok tt)) (Ok tt) (not_postdated options) refl)),
      refl,
    )

-- the AP request is the first entry
own_padata : (value : Bytes) → first_of 1 (pa_data_of 1 value ∷ []) ≡ Some value
unfolding first_of first_padata
own_padata value = refl

abbrev read_in : ApReqInner → Table (Result ApReqInner ℕ)
read_in presented = done (Ok presented)

abbrev padata_row : Bytes → Table (Result ApReqInner ℕ)
padata_row value = ask (IsApReq value) (sole_ap_req value) (done (Err 41)) read_in

is_carried : (value : Bytes) (presented : ApReqInner) → IsApReq value presented → (carried (pa_data_of 1 value ∷ [])).gives (Ok presented)
is_carried value presented is =
    by_need {T = ApReqInner} {E = ℕ} (first_of 1 (pa_data_of 1 value ∷ [])) 16 padata_row value (Ok presented) (own_padata value)
    (by_ask (IsApReq value) (sole_ap_req value) (done (Err 41)) read_in presented (Ok presented) is refl)

own_number : (number : ℕ) → is_number number (pos number) ≡ true
own_number number = eq-eqb number number refl

-- the suites' checksums are known, each by its number
known_checksum : (suite : CipherSuite) → is_known_checksum (pos (checksum_number (cipher_checksum suite))) ≡ true
known_checksum suite =
    let number : ℕ = checksum_number (cipher_checksum suite) in
    some_checksum (λ s. is_number (checksum_number s) (pos number)) (cipher_checksum suite) (own_number number)

-- the checksum covers the body
abbrev checksum_by : CipherSuite → Bytes → Bytes → Checksum
checksum_by suite key text = record {
  cksumtype = record { 0 = pos (checksum_number (cipher_checksum suite)) };
  checksum = record { 0 = checksum_of (cipher_checksum suite) key 6 text };
}

module _ (suite : CipherSuite) (key : Bytes) (body : KdcReqBody) (authenticator : AuthenticatorInner) where
  abbrev sum_rows : Checksum → Table (Result (Unit {0}) ℕ)
  sum_rows sum =
      refuse (not (is_known_checksum sum.cksumtype.0)) 15
      (refuse (not (is_number (checksum_number (cipher_checksum suite)) sum.cksumtype.0)) 50
      (refuse (not (is_of_body (cipher_checksum suite) key body sum)) 41
      (done (Ok tt))))

  covers_by : (sum : Checksum) → sum ≡ checksum_by suite key (body_bytes body) → (sum_rows sum).gives (Ok tt)
  covers_by sum is =
      subst (λ s. (sum_rows s).gives (Ok tt)) (sym is)
      (by_refuse {T = Unit {0}} {E = ℕ} (not (is_known_checksum (pos (checksum_number (cipher_checksum suite))))) 15
      (refuse (not (is_number (checksum_number (cipher_checksum suite)) (pos (checksum_number (cipher_checksum suite))))) 50
      (refuse (not (is_of_body (cipher_checksum suite) key body (checksum_by suite key (body_bytes body)))) 41 (done (Ok tt)))) (Ok tt) (ap not (known_checksum suite))
      (by_refuse {T = Unit {0}} {E = ℕ} (not (is_number (checksum_number (cipher_checksum suite)) (pos (checksum_number (cipher_checksum suite))))) 50
      (refuse (not (is_of_body (cipher_checksum suite) key body (checksum_by suite key (body_bytes body)))) 41 (done (Ok tt))) (Ok tt) (ap not (own_number (checksum_number (cipher_checksum suite))))
      (by_refuse {T = Unit {0}} {E = ℕ} (not (is_of_body (cipher_checksum suite) key body (checksum_by suite key (body_bytes body)))) 41 (done (Ok tt)) (Ok tt)
      (ap not (own_realm (checksum_of (cipher_checksum suite) key 6 (body_bytes body)))) refl)))

  covers : (sum : Checksum) → sum ≡ checksum_by suite key (body_bytes body) → table.checksum_in authenticator ≡ Some sum → (covered suite key authenticator body).gives (Ok tt)
  covers sum is has = by_need {T = Unit {0}} {E = ℕ} (table.checksum_in authenticator) 50 sum_rows sum (Ok tt) has (covers_by sum is)

-- The client's suite is the first that is granted: where triple DES is held back, the client's account has no key of it.
own_first : (without : Bool) (suite : CipherSuite) → table.is_granted without suite ≡ true → table.first_granted without (pos (cipher_number suite) ∷ []) ≡ Some suite
own_first without suite granted =
    let number : ℤ = pos (cipher_number suite) in
    let own = suite_found (λ s. is_number (cipher_number s) number) suite (is_own_number suite) (λ s is. same_suite s suite (sym (eqb-true (cipher_number suite) (cipher_number s) is))) in
    let one : option_map_or (table.is_granted without) (table.suite_numbered number) false ≡ true = ap (λ (o : Option CipherSuite). option_map_or (table.is_granted without) o false) own ∙ granted in
    ap (λ is. table.suite_of_first (if is then Some number else None)) one ∙ own

-- the client's own suite is never held back from it
never_held_back : (policy : Policy) (account service : AccountRecord) (found : Option AccountRecord) → found ≡ Some account
    → table.is_granted (table.holds_back_des3 policy found service) account.suite ≡ true
never_held_back policy account service found e =
    subst (λ o. table.is_granted (table.holds_back_des3 policy o service) account.suite ≡ true) (sym e) (by policy.limits_des3 (table.is_des3 account.suite) (table.is_des3 service.suite))
  where
    by : (limits own other : Bool) → not ((limits && not (own || other)) && own) ≡ true
    by true true other = refl
    by true false true = refl
    by true false false = refl
    by false own other = refl

-- a realm replies to a TGS request by its table
replied_to : (call : CallRecord) (rows : PkinitRows) (bytes : Bytes) (reply : Option Bytes) (request : KdcReq) → IsTgsReq bytes request → ((other : KdcReq) → IsAsReq bytes other → ⊥)
    → Replies call rows bytes reply → (tgs_reply call request).gives reply
unfolding Replies
replied_to call rows bytes reply request is none x =
    past_ask (IsTgsReq bytes) (sole_tgs_req bytes) (done None) (tgs_reply call) request reply is
    (past_none (IsAsReq bytes) (sole_as_req bytes) (ask (IsTgsReq bytes) (sole_tgs_req bytes) (done None) (tgs_reply call))
    (λ v. as_reply call rows (account_of call.look (client_of v.req_body.0)) (account_of call.look (service_of v.req_body.0)) v) reply none x)

-- rows of options
unless : (asked case : Bool) → (asked ≡ true → case ≡ false) → (asked && case) ≡ false
unless true case is = is refl
unless false case is = refl

for_both : (a b named : Bool) → (a ≡ true → named ≡ true) → (b ≡ true → named ≡ true) → ((a || b) && not named) ≡ false
for_both true b named first second = ap not (first refl)
for_both false true named first second = ap not (second refl)
for_both false false named first second = refl

-- the renew-till of a ticket's part is that of its grant
pub same_till : (till : Option GeneralizedTime) → option_map (λ tagged. seconds_of tagged.0.0) (tagged_till till) ≡ option_map seconds_of till
same_till None = refl
same_till (Some time) = refl

-- a renewed ticket ends after its start, where the presented one does, and its renew-till is after now
renewed_lasts : (life start : Seconds) (till : GeneralizedTime) → 0 < life → start < seconds_of till → start < end_of life start (Some (seconds_of till)) no_end
renewed_lasts life start till longer later =
    let last : asked_end no_end ≡ last_second = refl in
    before_end start life start (Some (seconds_of till)) no_end (omega (arith, last, later, second_below till)) (omega (arith, longer)) later (omega (arith, last))

life_is : (a b c d : Seconds) → a < b → a ≡ c → b ≡ d → 0 < d - c
life_is a b c d less same other = omega (arith, less, same, other)

-- the realm's reply grants the next ticket
pub record IsNextGranted (client : ClientRecord) (realm : RealmRecord) (exchange : TgsRecord) (old : GrantRecord) (words : Random) (account : AccountRecord) (reply : Option Bytes) : Type 0 where
  pub span : Span
  pub lasts : IsNextSpan exchange.options.renews realm exchange old span
  pub till : Option GeneralizedTime
  pub renews : IsTill (table.further_till exchange.options.renews realm.settings.policy.renewable_life (ticket_part old) span (tgs_body client exchange)) till
  pub bytes : Bytes
  pub is : reply ≡ Some bytes
  pub replied : IsTicketReply (next_grant client realm exchange old span till) (tgs_reply_key client.suite (session_key_of client.suite words)) account exchange.realm_words bytes

module _ (client : ClientRecord) (realm : RealmRecord) (rows : PkinitRows) (exchange : TgsRecord) (granting : CredentialRecord)
    (one : AreOfOneRealm client realm) (holds : HoldsGranting client realm granting) (honest : IsTgsHonest client realm exchange granting) where
  abbrev call : CallRecord
  call = call_at realm exchange.realm_at exchange.realm_words

  abbrev old : GrantRecord
  old = ticket_for client realm (krbtgt_of client.realm) holds.words holds.grant

  abbrev session : Bytes
  session = session_key_of client.suite holds.words

  -- the account of the ticket-granting service, as a service has it
  abbrev entry : EntryRecord
  entry = record {
    realm = realm.name;
    components = krbtgt_of realm.name;
    suite = holds.account.suite;
    key = holds.account.key;
    kvno = holds.account.kvno;
  }

  abbrev body : KdcReqBody
  body = tgs_body client exchange

  abbrev renews : Bool
  renews = exchange.options.renews

  abbrev start : Seconds
  start = start_of exchange.realm_at

  realm_is : is_general_string realm.name ≡ true
  realm_is = subst (λ name. is_general_string name ≡ true) one.same (realm_text client.realm one.realm_name)

  granting_found : realm.look (krbtgt_of realm.name) ≡ Some holds.account
  granting_found = subst (λ name. realm.look (krbtgt_of name) ≡ Some holds.account) one.same holds.found

  -- the presented ticket counts
  counts : (client_and_times call (ticket_part old)).gives (Ok tt)
  unfolding ticket_part
  counts =
      by_refuse {T = Unit {0}} {E = ℕ} (not (is_same_realm realm.name realm.name)) 68 (timely (skew_of call) exchange.realm_at (ticket_part old)) (Ok tt) (ap not (own_realm realm.name))
      (by_refuse {T = Unit {0}} {E = ℕ} (is_early (skew_of call) exchange.realm_at (ticket_part old)) 33 (refuse (is_late (skew_of call) exchange.realm_at (ticket_part old)) 32 (done (Ok tt))) (Ok tt)
      (not_early old (seconds_of granting.starttime) (seconds_of granting.endtime) (skew_of call) exchange.realm_at honest.valid (ap seconds_of (sym holds.held.starttime)))
      (by_refuse {T = Unit {0}} {E = ℕ} (is_late (skew_of call) exchange.realm_at (ticket_part old)) 32 (done (Ok tt)) (Ok tt)
      (not_late old (seconds_of granting.starttime) (seconds_of granting.endtime) (skew_of call) exchange.realm_at honest.valid (ap seconds_of (sym holds.held.endtime))) refl))

  -- ---- what the options ask for

  may_forward : exchange.options.forwards ≡ true → realm.settings.policy.forwardable ≡ true
  may_forward is = (honest.forwards is).allowed

  may_renew : exchange.options.renews ≡ true → grants_renewable realm.settings.policy ≡ true
  may_renew is = (honest.renews is).allowed

  has_till : (renewal : IsRenewable client realm exchange granting) → holds.grant.renew_till ≡ Some renewal.till
  has_till renewal = sym holds.held.renew_till ∙ renewal.renew_till

  forwardable : exchange.options.forwards ≡ true → bit_of (flags_of old.flags) 1 ≡ true
  forwardable is = subst (λ flags. bit_of flags 1 ≡ true) holds.held.flags (honest.forwards is).flag

  renewable : exchange.options.renews ≡ true → is_renewable (ticket_part old) ≡ true
  unfolding ticket_part
  renewable is =
      let renewal = honest.renews is in
      and_from (bit_of (flags_of old.flags) 8) (is_some (tagged_till holds.grant.renew_till))
      (subst (λ flags. bit_of flags 8 ≡ true) holds.held.flags renewal.flag)
      (ap (λ (till : Option GeneralizedTime). is_some (tagged_till till)) (has_till renewal))

  not_outlived : exchange.options.renews ≡ true → is_outlived exchange.realm_at (ticket_part old) ≡ false
  unfolding ticket_part
  not_outlived is =
      let renewal = honest.renews is in
      ap (λ (till : Option GeneralizedTime). option_map_or (λ tagged. nat_le (seconds_of tagged.0.0) start) (tagged_till till) true) (has_till renewal)
      ∙ lt-leb (seconds_of renewal.till) start renewal.later

  named_granting : exchange.service ≡ krbtgt_of client.realm → table.is_granting realm.name exchange.service ≡ true
  named_granting service = same_name exchange.service (krbtgt_of realm.name) (service ∙ ap krbtgt_of one.same)

  abbrev by_options : Table (Result (Unit {0}) ℕ)
  by_options = table.by_options call (asked_by exchange.options.forwards renews) (ticket_part old) (principal_name 2 exchange.service)

  allows : by_options.gives (Ok tt)
  unfolding ticket_part
  allows =
      let forwards : Bool = exchange.options.forwards in
      let no_flag : Bool = forwards && not (bit_of (flags_of old.flags) 1) in
      let not_renewable : Bool = renews && not (is_renewable (ticket_part old)) in
      let outlived : Bool = renews && is_outlived exchange.realm_at (ticket_part old) in
      let for_other : Bool = (renews || forwards) && not (table.is_granting realm.name exchange.service) in
      by_refuse {T = Unit {0}} {E = ℕ} no_flag 13 (refuse not_renewable 13 (refuse outlived 32 (refuse for_other 26 (done (Ok tt))))) (Ok tt)
      (none_beyond forwards (bit_of (flags_of old.flags) 1) forwardable)
      (by_refuse {T = Unit {0}} {E = ℕ} not_renewable 13 (refuse outlived 32 (refuse for_other 26 (done (Ok tt)))) (Ok tt)
      (none_beyond renews (is_renewable (ticket_part old)) renewable)
      (by_refuse {T = Unit {0}} {E = ℕ} outlived 32 (refuse for_other 26 (done (Ok tt))) (Ok tt)
      (unless renews (is_outlived exchange.realm_at (ticket_part old)) not_outlived)
      (by_refuse {T = Unit {0}} {E = ℕ} for_other 26 (done (Ok tt)) (Ok tt)
      (for_both renews forwards (table.is_granting realm.name exchange.service) (λ is. named_granting (honest.renews is).service) (λ is. named_granting (honest.forwards is).service)) refl)))

  -- ---- the times of the next ticket

  abbrev lasting_by : Bool → Table (Result Span ℕ)
  lasting_by b = table.further_lasting b realm.settings.lifetime exchange.realm_at (ticket_part old) body

  found_further : start < end_by realm exchange granting → (r : Result Span ℕ) → (lasting_by false).gives r
      → (span : Span) × IsNextSpan false realm exchange old span × (r ≡ Ok span)
  unfolding ticket_part
  found_further allowed r x =
      found_lasting realm.settings.lifetime exchange.realm_at (Some (seconds_of old.endtime)) body
      (λ span is. lasts start (end_by realm exchange granting) span is.starts
      (is.ends ∙ ap (λ time. end_of realm.settings.lifetime start (Some (seconds_of time)) (seconds_of exchange.till)) (sym holds.held.endtime)) allowed)
      r x

  abbrev life : Seconds
  life = seconds_of old.endtime - seconds_of old.starttime

  lives : 0 < life
  lives = life_is (seconds_of granting.starttime) (seconds_of granting.endtime) (seconds_of old.starttime) (seconds_of old.endtime) honest.valid.lasts (ap seconds_of holds.held.starttime) (ap seconds_of holds.held.endtime)

  found_renewed : IsRenewable client realm exchange granting → (r : Result Span ℕ) → (lasting_by true).gives r
      → (span : Span) × IsNextSpan true realm exchange old span × (r ≡ Ok span)
  unfolding ticket_part
  found_renewed allowed r x =
      let told = subst (λ till. (lasting_to life exchange.realm_at till no_end).gives r) (same_till old.renew_till) x in
      let till : option_map seconds_of old.renew_till ≡ Some (seconds_of allowed.till) = ap (λ (o : Option GeneralizedTime). option_map seconds_of o) (has_till allowed) in
      found_to life exchange.realm_at (option_map seconds_of old.renew_till) no_end
      (λ span is. lasts start (end_of life start (Some (seconds_of allowed.till)) no_end) span is.starts
      (is.ends ∙ ap (λ (o : Option Seconds). end_of life start o no_end) till) (renewed_lasts life start allowed.till lives allowed.later))
      r told

  -- nobody sets an attribute for the service's account, so that the ticket lasts as long as the realm's settings allow
  abbrev own_lasting : Table (Result Span ℕ)
  own_lasting = table.further_lasting renews (limited honest.account realm.settings.lifetime) exchange.realm_at (ticket_part old) body

  lasting_as : (r : Result Span ℕ) → own_lasting.gives r → (lasting_by renews).gives r
  lasting_as r x =
      subst (λ n. (table.further_lasting renews n exchange.realm_at (ticket_part old) body).gives r) (limited_plain realm.settings.lifetime honest.account honest.free) x

  -- and no row of attributes refuses
  allowed_further : (further_allowed exchange.realm_at one.known.account honest.account).gives (Ok tt)
  allowed_further = further_plain exchange.realm_at one.known.account honest.account one.free honest.free

  found_next : (b : Bool) → renews ≡ b → (r : Result Span ℕ) → (lasting_by b).gives r → (span : Span) × IsNextSpan b realm exchange old span × (r ≡ Ok span)
  found_next true is r x = found_renewed (honest.renews is) r x
  found_next false is r x = found_further (honest.lasts is) r x

  module _ (second : GeneralizedTime) (of_moment : seconds_of second ≡ exchange.client_at / 1000000) (shown_bytes : Bytes) where
    abbrev text : Bytes
    text = body_bytes body

    abbrev sum : Checksum
    sum = checksum_over granting text

    abbrev authenticator : AuthenticatorInner
    authenticator = authenticator_with (authenticator_parts_of client (exchange.client_at % 1000000)) second (Some sum) None

    abbrev shown : Authenticated
    shown = record { suite = client.suite; authenticator = authenticator; time = exchange.client_at }

    -- the confounders of the presented ticket's part, and of the authenticator
    abbrev part_confounder : Bytes
    part_confounder = ticket_confounder (cipher_confounder_size entry.suite) holds.words

    abbrev confounder : Bytes
    confounder = authenticator_confounder (cipher_confounder_size granting.suite) exchange.words

    module _ (asks : IsApRequest granting 7 false authenticator confounder shown_bytes) where
      abbrev presented : ApReqInner
      presented = request_of (choice_of false entry old authenticator part_confounder confounder).outer holds.held.sealed.cipher asks.sealed.cipher

      is_presented : IsApReq shown_bytes presented
      is_presented =
          written 7 false entry old granting authenticator part_confounder confounder shown_bytes holds.held.part
          holds.held.sealed holds.held.ticket holds.held.suite holds.held.key asks realm_is (granting_texts client.realm one.realm_name)

      -- the ticket is for the ticket-granting service, which opens it
      for_us : (ap_fields realm.name (krbtgt_of realm.name) entry.kvno presented).gives (Ok tt)
      for_us =
          by_refuse {T = Unit {0}} {E = ℕ} (not (is_for realm.name (krbtgt_of realm.name) presented.ticket.0.0)) 35
          (refuse (not (kvno_fits entry.kvno presented.ticket.0.0.enc_part.0)) 44 (done (Ok tt))) (Ok tt)
          (ap not (and_from (is_same_realm realm.name realm.name) (is_same_name (krbtgt_of client.realm) (krbtgt_of realm.name)) (own_realm realm.name)
          (same_name (krbtgt_of client.realm) (krbtgt_of realm.name) (ap krbtgt_of one.same))))
          (by_refuse {T = Unit {0}} {E = ℕ} (not (kvno_fits entry.kvno presented.ticket.0.0.enc_part.0)) 44 (done (Ok tt)) (Ok tt) (ap not (own_number entry.kvno)) refl)

      is_part : IsTicketPart entry.suite entry.key presented.ticket.0.0.enc_part.0 (ticket_part old)
      unfolding ticket_part_bytes
      is_part =
          sealed_opens {T = EncTicketPartInner} enc_ticket_part_tree (ticket_part old) entry.suite entry.key (Some entry.kvno) 2 part_confounder
          (ticket_part_bytes (ticket_part old)) presented.ticket.0.0.enc_part.0
          (whole_part old realm_is (component_texts client.components one.name), refl)
          (record { cipher = holds.held.sealed.cipher; seals = holds.held.sealed.seals; told = refl })

      opens : (opened_part entry.suite entry.key presented.ticket.0.0.enc_part.0).gives (Ok (ticket_part old))
      opens =
          by_ask (IsTicketPart entry.suite entry.key presented.ticket.0.0.enc_part.0) (sole_ticket_part entry.suite entry.key presented.ticket.0.0.enc_part.0) (done (Err 31)) (λ part. done (Ok part))
          (ticket_part old) (Ok (ticket_part old)) is_part refl

      of_newest : (granting_by call (newest holds.account) presented).gives (Ok (ticket_part old))
      of_newest = inl (tt, for_us, inl (ticket_part old, opens, inl (tt, counts, refl)))

      -- the ticket has the kvno of the newest key
      of_granting : (ticket_granting call holds.account presented).gives (Ok (ticket_part old))
      of_granting =
          subst (λ (own : AccountKeyRecord). (granting_by call own presented).gives (Ok (ticket_part old)))
          (sym (newest_fits presented.ticket.0.0.enc_part.0 holds.account (own_number holds.account.kvno))) of_newest

      -- the authenticator is under the session's key, and of the ticket's client
      is_authenticator : IsAuthenticator client.suite session 7 presented.authenticator.0 authenticator
      unfolding authenticator_bytes
      is_authenticator = record {
        numbered = own_number (cipher_number client.suite);
        opens = record {
          conf = confounder;
          plain = authenticator_bytes authenticator;
          writes = (whole_authenticator client (exchange.client_at % 1000000) second (Some sum) None (realm_text client.realm one.realm_name) (component_texts client.components one.name), refl);
          sealed = (
            granting.suite,
            ap cipher_number holds.held.suite,
            subst (λ k. IsSealedBy granting.suite k 7 confounder (authenticator_bytes authenticator) asks.sealed.cipher) holds.held.key asks.sealed.seals,
          );
        };
      }

      abbrev found : AuthenticatorInner → Table (Result (CipherSuite × AuthenticatorInner) ℕ)
      found it = done (Ok (client.suite, it))

      abbrev by_suite : CipherSuite → Table (Result (CipherSuite × AuthenticatorInner) ℕ)
      by_suite suite =
          ask (IsAuthenticator suite session 7 presented.authenticator.0) (sole_authenticator suite session 7 presented.authenticator.0) (done (Err 31)) (λ it. done (Ok (suite, it)))

      shown_opens : (opened (ticket_part old).key.0 7 presented.authenticator.0).gives (Ok (client.suite, authenticator))
      unfolding ticket_part
      shown_opens =
          by_need {T = CipherSuite × AuthenticatorInner} {E = ℕ} (suite_of (encryption_key client.suite session)) 31 by_suite client.suite (Ok (client.suite, authenticator))
          (suite_of_key client.suite session (session_key_sized client.suite holds.words holds.enough))
          (by_ask (IsAuthenticator client.suite session 7 presented.authenticator.0) (sole_authenticator client.suite session 7 presented.authenticator.0) (done (Err 31)) found authenticator
          (Ok (client.suite, authenticator)) is_authenticator refl)

      abbrev at_time : ℕ → Table (Result ℕ ℕ)
      at_time time = done (Ok time)

      shown_told : (authenticator_time (ticket_part old) authenticator).gives (Ok exchange.client_at)
      unfolding ticket_part
      shown_told =
          by_refuse {T = ℕ} {E = ℕ} (not (is_same_realm client.realm realm.name && is_same_name client.components client.components)) 36
          (need (moment_at (seconds_of second) (pos (exchange.client_at % 1000000))) 41 at_time) (Ok exchange.client_at)
          (ap not (and_from (is_same_realm client.realm realm.name) (is_same_name client.components client.components) (same_realm client.realm realm.name one.same) (own_name client.components)))
          (by_need {T = ℕ} {E = ℕ} (moment_at (seconds_of second) (pos (exchange.client_at % 1000000))) 41 at_time exchange.client_at (Ok exchange.client_at)
          (moment_told exchange.client_at (seconds_of second) of_moment) refl)

      is_shown : (authenticated_near call (ticket_part old) presented).gives (Ok shown)
      is_shown = inl (
        shown,
        inl ((client.suite, authenticator), shown_opens, inl (exchange.client_at, shown_told, refl)),
        by_refuse {T = Authenticated} {E = ℕ} (is_far (skew_of call) exchange.realm_at exchange.client_at) 37 (done (Ok shown)) (Ok shown) honest.near refl,
      )

      -- its checksum covers the body
      covers_body : (covered client.suite session authenticator body).gives (Ok tt)
      covers_body = covers client.suite session body authenticator sum (λ i. checksum_by (holds.held.suite i) (holds.held.key i) text) refl

      abbrev request : KdcReq
      request = further_request_with client (client.suite ∷ []) exchange.options exchange.service exchange.till (nonce_of exchange.words) shown_bytes

      -- the renew-till of the next ticket
      abbrev wanted : Span → Option ℕ
      wanted span = table.further_till renews realm.settings.policy.renewable_life (ticket_part old) span body

      -- what the table gives
      abbrev IsGrantedBy : Result Bytes ℕ → Type 0
      IsGrantedBy r =
          (span : Span) × IsNextSpan renews realm exchange old span × ((till : Option GeneralizedTime) × IsTill (wanted span) till × ((bytes : Bytes)
          × IsTicketReply (next_grant client realm exchange old span till) (tgs_reply_key client.suite session) honest.account exchange.realm_words bytes × (r ≡ Ok bytes)))

      -- whether triple DES is held back
      abbrev without : Bool
      without = table.without_des3 call (ticket_part old) honest.account

      client_granted : table.is_granted without client.suite ≡ true
      unfolding ticket_part
      client_granted =
          let own = one.known in
          subst (λ suite. table.is_granted without suite ≡ true) own.suite (never_held_back realm.settings.policy own.account honest.account (realm.look client.components) own.found)

      abbrev under_key : Span → CipherSuite → ReplyKeyRecord → Table (Result Bytes ℕ)
      under_key span suite under = table.further_replied call (ticket_part old) (principal_name 2 exchange.service) honest.account suite under (wanted span) body span

      abbrev in_suite : Span → CipherSuite → Table (Result Bytes ℕ)
      in_suite span suite =
          need (table.reply_key client.suite (ticket_part old).key.0.key_value.0 (table.subkey_in authenticator)) 31 (under_key span suite)

      abbrev in_span : Span → Table (Result Bytes ℕ)
      in_span span = need (table.first_granted without body.etype.0) 14 (in_suite span)

      abbrev to_service : AccountRecord → Table (Result Bytes ℕ)
      to_service account = further call (ticket_part old) shown (principal_name 2 exchange.service) account body

      abbrev asking : AskedOptions → Table (Result Bytes ℕ)
      asking asked = table.further_by asked call (ticket_part old) shown (principal_name 2 exchange.service) honest.account body

      abbrev behind_options : Unit {0} → Table (Result Bytes ℕ)
      behind_options _ = table.further_in renews call (ticket_part old) shown (principal_name 2 exchange.service) honest.account body

      -- the rows of client and service
      abbrev allowed_by : PrincipalName → AccountRecord → AccountRecord → Table (Result Bytes ℕ)
      allowed_by name account own =
          and_then {A = Unit {0}} (further_allowed exchange.realm_at account own) (λ _. further call (ticket_part old) shown name own body)

      abbrev by_name : AccountRecord → PrincipalName → Table (Result Bytes ℕ)
      by_name account name = need (call.look (components name)) 7 (allowed_by name account)

      abbrev by_client : AccountRecord → Table (Result Bytes ℕ)
      by_client account = need (service_of body) 7 (by_name account)

      -- the same grant with other addresses
      abbrev addressed : Span → Option GeneralizedTime → Option (List HostAddress) → GrantRecord
      addressed span till addresses = record (next_grant client realm exchange old span till) { addresses = addresses }

      grants_further : (r : Result Bytes ℕ) → (tgs_granted call (ticket_part old) shown body).gives r → IsGrantedBy r
      unfolding ticket_part
      grants_further r x =
          let a = past_need {T = Bytes} {E = ℕ} (realm.look client.components) 6 by_client one.known.account r one.known.found x in
          let b = past_need {T = Bytes} {E = ℕ} (service_of body) 7 (by_name one.known.account) (principal_name 2 exchange.service) r refl a in
          let c = past_need {T = Bytes} {E = ℕ} (realm.look exchange.service) 7 (allowed_by (principal_name 2 exchange.service) one.known.account) honest.account r honest.found b in
          let i = past_then {A = Unit {0}} {T = Bytes} (further_allowed exchange.realm_at one.known.account honest.account) (λ _. to_service honest.account) tt r allowed_further c in
          let asked = subst (λ (own : AskedOptions). (asking own).gives r) (asked_so exchange.options realm.settings.policy may_forward may_renew) i in
          let o = past_then {A = Unit {0}} {T = Bytes} by_options behind_options tt r allows asked in
          let d = past_found {A = Span} {T = Bytes} (IsNextSpan renews realm exchange old) own_lasting in_span r (λ s y. found_next renews refl s (lasting_as s y)) o in
          let e = past_need {T = Bytes} {E = ℕ} (table.first_granted without (pos (cipher_number client.suite) ∷ [])) 14 (in_suite d.0) client.suite r (own_first without client.suite client_granted) d.2 in
          let none = none_either ((asked_options realm.settings.policy body.kdc_options.0).forwards || (asked_options realm.settings.policy body.kdc_options.0).proxies) in
          let own = subst (λ addresses. IsTicketReply (addressed d.0 e.0 addresses) (tgs_reply_key client.suite session) honest.account exchange.realm_words e.2.0) none e.2.1 in
          (d.0, d.1, (e.0, e.1, (e.2.0, own, e.2.2)))

      abbrev by_account : AccountRecord → Table (Result Bytes ℕ)
      by_account account = and_then (ticket_granting call account presented) (of_ticket call body presented)

      abbrev then_granted : Table (Result Bytes ℕ)
      then_granted = tgs_granted call (ticket_part old) shown body

      shown_grants : (r : Result Bytes ℕ) → (of_authenticated call body (ticket_part old) shown).gives r → then_granted.gives r
      unfolding ticket_part
      shown_grants r x = past_then {A = Unit {0}} {T = Bytes} (covered client.suite session authenticator body) (λ _. then_granted) tt r covers_body x

      table_grants : (r : Result Bytes ℕ) → (tgs_table call request).gives r → IsGrantedBy r
      table_grants r x =
          let a = past_then {A = Unit {0}} {T = Bytes} (to_us realm.settings.policy realm.name request) (λ _. and_then (carried (padata_in request)) (of_carried call body)) tt r
          (for_realm client exchange.options exchange.service exchange.till (nonce_of exchange.words) shown_bytes realm.settings.policy realm.name (not_beyond exchange.options realm.settings.policy may_forward may_renew) one.same) x in
          let b = past_then {A = ApReqInner} {T = Bytes} (carried (padata_in request)) (of_carried call body) presented r (is_carried shown_bytes presented is_presented) a in
          let c = past_need {T = Bytes} {E = ℕ} (realm.look (krbtgt_of realm.name)) 7 by_account holds.account r granting_found b in
          let d = past_then {A = EncTicketPartInner} {T = Bytes} (ticket_granting call holds.account presented) (of_ticket call body presented) (ticket_part old) r of_granting c in
          let e = past_then {A = Authenticated} {T = Bytes} (authenticated_near call (ticket_part old) presented) (of_authenticated call body (ticket_part old)) shown r is_shown d in
          grants_further r (shown_grants r e)

      granted : (bytes : Bytes) (reply : Option Bytes) → bytes ≡ tgs_request_bytes request → Replies call rows bytes reply
          → (span : Span) × IsNextSpan renews realm exchange old span × ((till : Option GeneralizedTime) × IsTill (wanted span) till × ((made : Bytes) × (reply ≡ Some made)
          × IsTicketReply (next_grant client realm exchange old span till) (tgs_reply_key client.suite session) honest.account exchange.realm_words made))
      granted bytes reply e x =
          let asked = component_texts exchange.service honest.named in
          let is = tgs_request_with_written client (client.suite ∷ []) exchange.options exchange.service exchange.till (nonce_of exchange.words) shown_bytes bytes (realm_text client.realm one.realm_name) asked e in
          let judged = replied_to call rows bytes reply request is (no_as_request _ bytes is.1) x in
          let made = table_grants judged.0 judged.1 in
          let reply_is = subst (λ r. (reply_of call (λ code. None) request r).gives reply) made.2.2.2 judged.2 in
          (made.0, made.1, (made.2.0, made.2.1, (made.2.2.0, reply_is, made.2.2.1)))

  -- the moment of the grant is one that KerberosTime has
  granted_at : (b : Bool) → renews ≡ b → IsMoment exchange.realm_at
  granted_at true is =
      let renewal = honest.renews is in
      granted_in_time life exchange.realm_at (Some (seconds_of renewal.till)) no_end (renewed_lasts life start renewal.till lives renewal.later)
  granted_at false is = granted_in_time realm.settings.lifetime exchange.realm_at (Some (seconds_of granting.endtime)) (seconds_of exchange.till) (honest.lasts is)

  -- the realm has a reply, and grants the next ticket
  pub next_granted : (request : Bytes) → AsksTgsWith client (client.suite ∷ []) exchange.options granting exchange.service exchange.till exchange.client_at exchange.words request
      → (AreBytes exchange.realm_words request → HasSome (Replies call rows request))
      × ((reply : Option Bytes) → Replies call rows request reply → IsNextGranted client realm exchange old holds.words honest.account reply)
  next_granted request asks =
      let own = asks.authenticates in
      let presents = subst (λ a. IsApRequest granting 7 false a (authenticator_confounder (cipher_confounder_size granting.suite) exchange.words) asks.request) own.authenticates.is_made own.presents in (
        λ are. replies_at realm rows exchange.realm_at exchange.realm_words request one.keyed (granted_at renews refl) honest.enough are,
        λ reply replied.
            let it = granted own.authenticates.second own.authenticates.of_moment asks.request presents request reply asks.encoding replied in
            record { span = it.0; lasts = it.1; till = it.2.0; renews = it.2.1; bytes = it.2.2.0; is = it.2.2.1; replied = it.2.2.2 },
      )
