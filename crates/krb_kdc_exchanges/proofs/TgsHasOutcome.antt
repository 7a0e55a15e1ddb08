-- The table of TGS requests has an outcome: each part of it has one.
use Rattle.std.proofs.Common.{◌≡◌, ◌<◌, ℕ, ◌^◌, Bool, true, false, not, ◌&&◌, List, length, Option, None, Some, Result, Ok, Err, inl, inr, refl, sym, subst, if◌then◌else◌}
use Rattle.std.specs.Prelude.{◌||◌}
use Rattle.std.specs.Option.{is_some, option_map}
use Rattle.block_ciphers.specs.Bytes.{IsBytes}
use Rattle.asn1_leaves.specs.GeneralizedTime.{seconds_of}
use Rattle.asn1_leaves.specs.declared.date.GeneralizedTime.{GeneralizedTime}
use Rattle.picky_asn1.specs.BitString.{bit_of}
use Rattle.krb_tickets.specs.declared.flag_bits.TheConstants as flag
use Rattle.krb_time.specs.Moment.{IsMoment}
use Rattle.krb_realm_accounts.specs.declared.policy.Policy.{Policy}
use Rattle.picky_asn1.specs.Numbers.{is_number}
use Rattle.krb_time.specs.Skew.{is_far}
use Rattle.krb_crypto.specs.declared.suite.CipherSuite.{CipherSuite}
use Rattle.krb_crypto.specs.Suites.{checksum_number, cipher_checksum, cipher_key_size}
use Rattle.krb_realm_accounts.specs.Account.{AccountKeyRecord, AccountRecord}
use Rattle.krb_messages.specs.Names.{components, is_same_realm}
use Rattle.krb_messages.specs.declared.data_types.authenticator.AuthenticatorInner.{AuthenticatorInner}
use Rattle.krb_messages.specs.declared.data_types.checksum.Checksum.{Checksum}
use Rattle.krb_messages.specs.declared.data_types.enc_ticket_part.EncTicketPartInner.{EncTicketPartInner}
use Rattle.krb_messages.specs.declared.data_types.encryption_key.EncryptionKey.{EncryptionKey}
use Rattle.krb_messages.specs.declared.data_types.host_address.HostAddress.{HostAddress}
use Rattle.krb_messages.specs.declared.data_types.pa_data.PaData.{PaData}
use Rattle.krb_messages.specs.declared.data_types.principal_name.PrincipalName.{PrincipalName}
use Rattle.krb_tickets.specs.Keys.{suite_of}
use Rattle.krb_messages.specs.declared.messages.ap_req.ApReqInner.{ApReqInner}
use Rattle.krb_messages.specs.declared.messages.kdc_req.KdcReq.{KdcReq}
use Rattle.krb_messages.specs.declared.messages.kdc_req_body.KdcReqBody.{KdcReqBody}
use Rattle.krb_messages.specs.Messages.{IsApReq, ap_req_tree, authenticator_tree, enc_ticket_part_tree, sole_ap_req}
use Rattle.krb_messages.specs.MessageTrees.{kdc_req_inner_tree}
use Rattle.decision_tables.specs.Tables.{Table, and_then, ask, done, need, refuse}
use Rattle.decision_tables.proofs.Outcomes.{HasOutcome, has_asked, has_done, has_needed, has_refused, has_then}
use Rattle.krb_messages.specs.Padata.{first_of}
use Rattle.krb_tickets.specs.declared.reply.Exchange.TheVariants.{Tgs}
use Rattle.krb_tickets.specs.Grant.{GrantRecord}
use Rattle.krb_tickets.specs.ReplyKeys.{ReplyKeyRecord, tgs_reply_key, tgs_subkey_reply_key}
use Rattle.krb_ap_requests.specs.declared.presented.Authenticated.{Authenticated}
use Rattle.krb_kdc_exchanges.specs.Allowed.{further_allowed, has_ended, limited}
use Rattle.krb_kdc_exchanges.specs.Call.{CallRecord, skew_of}
use Rattle.krb_kdc_exchanges.specs.Calls.{IsCall, IsKeyed}
use Rattle.krb_kdc_exchanges.specs.ChosenKeys.{chosen}
use Rattle.krb_kdc_exchanges.specs.Options.{asked_options, has_option_beyond}
use Rattle.krb_kdc_exchanges.specs.Renewals.{IsTill, is_outlived, is_renewable, life_of, renew_till_of}
use Rattle.krb_kdc_exchanges.specs.Requests.{header_rows, service_of}
use Rattle.krb_kdc_exchanges.specs.Times.{no_end}
use Rattle.krb_kdc_exchanges.specs.declared.options.AskedOptions.{AskedOptions}
use Rattle.krb_messages.specs.Padata.{padata_in}
use Rattle.krb_messages.specs.TicketGranting.{krbtgt_of}
use Rattle.krb_kdc_exchanges.specs.declared.span.Span.{Span}
use Rattle.krb_kdc_exchanges.proofs.HasGrant.{has_granted_till, has_header, has_lasting, has_lasting_to, has_old_till, has_tilled}
use Rattle.krb_kdc_exchanges.proofs.PartTrees.{realm_tree}
use Rattle.krb_kdc_exchanges.proofs.RequestTrees.{addresses_fits, body_fits, padata_short, nonce_fits, service_fits}
use Rattle.krb_kdc_exchanges.proofs.Short.{Fits}
use Rattle.krb_kdc_exchanges.proofs.Written.{IsWritten, is_written, own_realm_fits, session_short}
use Rattle.krb_ap_requests.specs.ApTable.{ap_fields, authenticated, is_early, is_for, is_late, is_version_5, kvno_fits, opened_part, timely}
use Rattle.krb_tickets.proofs.KeySizes.{suite_sized}
use Rattle.krb_ap_requests.proofs.Judgements.{has_authenticated, has_fields, has_opened_part, has_times}
use Rattle.krb_kdc_exchanges.specs.ByTicket.{IsByTicket}
use Rattle.krb_kdc_exchanges.specs.TgsTable.{addresses_in, by_options, carried, checksum_in, client_and_times, covered, first_granted, further, further_asked, further_grant, further_in, further_lasting, further_replied, further_till, granting_by, is_granting, is_known_checksum, is_of_body, of_carried, of_authenticated, of_ticket, reply_key, authenticated_near, subkey_in, tgs_granted, tgs_table, ticket_granting, to_us, without_des3}
use Rattle.krb_kdc_exchanges.proofs.ByTicket.{IsOfKey, by_authenticator, by_padata, by_ticket}
use Rattle.krb_kdc_exchanges.proofs.PresentedTrees.{authenticator_short, part_name_fits, request_fits, subkey_short, ticket_short}
use Rattle.krb_kdc_exchanges.proofs.SealedLengths.{opened_fits}

-- the request's options go beyond the policy or not
abbrev beyond : Policy → KdcReq → Bool
beyond policy request = has_option_beyond policy request.req_body.0.kdc_options.0

has_to_us : (policy : Policy) (realm : List ℕ) (request : KdcReq) → HasOutcome (to_us policy realm request)
has_to_us policy realm request =
    has_then {A = Unit {0}} (header_rows 12 realm (beyond policy request) request) (λ _. refuse (is_some request.req_body.0.enc_authorization_data.0) 12 (done (Ok tt)))
    (has_header 12 realm (beyond policy request) request)
    (λ _ x. has_refused {T = Unit {0}} (is_some request.req_body.0.enc_authorization_data.0) 12 (done (Ok tt)) (λ _. has_done (Ok tt)))

has_carried : (padata : List PaData) → HasOutcome (carried padata)
has_carried padata =
    let none : Table (Result ApReqInner ℕ) = done (Err 41) in
    let end : ApReqInner → Table (Result ApReqInner ℕ) = λ ap_req. done (Ok ap_req) in
    let read : List ℕ → Table (Result ApReqInner ℕ) = λ value. ask (IsApReq value) (sole_ap_req value) none end in
    has_needed (first_of 1 padata) 16 read
    (λ value e. has_asked (IsApReq value) (sole_ap_req value) none end (has_done (Err 41)) (λ ap_req x. has_done (Ok ap_req)))

has_client_and_times : (call : CallRecord) (part : EncTicketPartInner) → HasOutcome (client_and_times call part)
has_client_and_times call part =
    has_refused {T = Unit {0}} (not (is_same_realm part.crealm.0 call.realm)) 68 (timely (skew_of call) call.moment part) (λ _. has_times (is_early (skew_of call) call.moment part) (is_late (skew_of call) call.moment part))

has_granting_by : (call : CallRecord) (own : AccountKeyRecord) (ap_req : ApReqInner) → HasOutcome (granting_by call own ap_req)
has_granting_by call own ap_req =
    let end : EncTicketPartInner → Table (Result EncTicketPartInner ℕ) = λ part. and_then {A = Unit {0}} (client_and_times call part) (λ _. done (Ok part)) in
    let opened : Table (Result EncTicketPartInner ℕ) = opened_part own.suite own.key ap_req.ticket.0.0.enc_part.0 in
    has_then {A = Unit {0}} (ap_fields call.realm (krbtgt_of call.realm) own.kvno ap_req) (λ _. and_then opened end)
    (has_fields (not (is_version_5 ap_req)) (not (is_number 14 ap_req.msg_type.0)) (not (is_for call.realm (krbtgt_of call.realm) ap_req.ticket.0.0))
    (not (kvno_fits own.kvno ap_req.ticket.0.0.enc_part.0)))
    (λ _ x.
    has_then opened end (has_opened_part own.suite own.key ap_req.ticket.0.0.enc_part.0)
    (λ part y. has_then {A = Unit {0}} (client_and_times call part) (λ _. done (Ok part)) (has_client_and_times call part) (λ _ z. has_done (Ok part))))

has_ticket_granting : (call : CallRecord) (granting : AccountRecord) (ap_req : ApReqInner) → HasOutcome (ticket_granting call granting ap_req)
has_ticket_granting call granting ap_req = has_granting_by call (chosen ap_req.ticket.0.0.enc_part.0 granting) ap_req

has_authenticated_near : (call : CallRecord) (part : EncTicketPartInner) (ap_req : ApReqInner) → HasOutcome (authenticated_near call part ap_req)
has_authenticated_near call part ap_req =
    let rest : Authenticated → Table (Result Authenticated ℕ) = λ authenticated. refuse (is_far (skew_of call) call.moment authenticated.time) 37 (done (Ok authenticated)) in
    has_then (authenticated 7 part ap_req.authenticator.0) rest (has_authenticated 7 part ap_req.authenticator.0)
    (λ authenticated x. has_refused {T = Authenticated} (is_far (skew_of call) call.moment authenticated.time) 37 (done (Ok authenticated)) (λ _. has_done (Ok authenticated)))

has_covered : (suite : CipherSuite) (key : List ℕ) (authenticator : AuthenticatorInner) (body : KdcReqBody) → HasOutcome (covered suite key authenticator body)
has_covered suite key authenticator body =
    let last : Checksum → Table (Result (Unit {0}) ℕ) = λ checksum. refuse (not (is_of_body (cipher_checksum suite) key body checksum)) 41 (done (Ok tt)) in
    let second : Checksum → Table (Result (Unit {0}) ℕ) = λ checksum. refuse (not (is_number (checksum_number (cipher_checksum suite)) checksum.cksumtype.0)) 50 (last checksum) in
    let first : Checksum → Table (Result (Unit {0}) ℕ) = λ checksum. refuse (not (is_known_checksum checksum.cksumtype.0)) 15 (second checksum) in
    has_needed (checksum_in authenticator) 50 first
    (λ checksum e.
    has_refused {T = Unit {0}} (not (is_known_checksum checksum.cksumtype.0)) 15 (second checksum)
    (λ _.
    has_refused {T = Unit {0}} (not (is_number (checksum_number (cipher_checksum suite)) checksum.cksumtype.0)) 50 (last checksum)
    (λ _. has_refused {T = Unit {0}} (not (is_of_body (cipher_checksum suite) key body checksum)) 41 (done (Ok tt)) (λ _. has_done (Ok tt)))))

has_further_allowed : (moment : ℕ) (client service : AccountRecord) → HasOutcome (further_allowed moment client service)
has_further_allowed moment client service =
    rows (has_ended moment client) client.attributes.is_off service.attributes.is_off service.attributes.is_no_service (has_ended moment service)
  where
    rows : (a b c d e : Bool) → HasOutcome (refuse {T = Unit {0}} {E = ℕ} a 1 (refuse b 18 (refuse c 7 (refuse d 12 (refuse e 2 (done (Ok tt)))))))
    rows true b c d e = has_done (Err 1)
    rows false true c d e = has_done (Err 18)
    rows false false true d e = has_done (Err 7)
    rows false false false true e = has_done (Err 12)
    rows false false false false true = has_done (Err 2)
    rows false false false false false = has_done (Ok tt)

has_by_options : (call : CallRecord) (asked : AskedOptions) (part : EncTicketPartInner) (service_name : PrincipalName) → HasOutcome (by_options call asked part service_name)
has_by_options call asked part service_name =
    rows (asked.forwards && not (bit_of part.flags.0 flag.FORWARDABLE)) (asked.proxies && not (bit_of part.flags.0 flag.PROXIABLE)) (asked.renews && not (is_renewable part))
    (asked.renews && is_outlived call.moment part) ((asked.renews || asked.forwards) && not (is_granting call.realm (components service_name)))
    (asked.proxies && is_granting call.realm (components service_name))
  where
    rows : (a b c d e f : Bool) → HasOutcome (refuse {T = Unit {0}} {E = ℕ} a 13 (refuse b 13 (refuse c 13 (refuse d 32 (refuse e 26 (refuse f 13 (done (Ok tt))))))))
    rows true b c d e f = has_done (Err 13)
    rows false true c d e f = has_done (Err 13)
    rows false false true d e f = has_done (Err 13)
    rows false false false true e f = has_done (Err 32)
    rows false false false false true f = has_done (Err 26)
    rows false false false false false true = has_done (Err 13)
    rows false false false false false false = has_done (Ok tt)

has_further_lasting : (renews : Bool) (lifetime moment : ℕ) (part : EncTicketPartInner) (body : KdcReqBody) → IsMoment moment → HasOutcome (further_lasting renews lifetime moment part body)
has_further_lasting false lifetime moment part body in_time = has_lasting lifetime moment (Some (seconds_of part.endtime.0.0)) body in_time
has_further_lasting true lifetime moment part body in_time = has_lasting_to (life_of part) moment (renew_till_of part) no_end in_time

has_further_till : (renews : Bool) (life : ℕ) (part : EncTicketPartInner) (span : Span) (body : KdcReqBody) → (own : Option GeneralizedTime) × IsTill (further_till renews life part span body) own
has_further_till false life part span body = has_granted_till life span (renew_till_of part) (further_asked part body)
has_further_till true life part span body = has_old_till part

-- the reply's key is one of its suite
record IsUsable (under : ReplyKeyRecord) : Type 0 where
  sized : length under.key ≡ cipher_key_size under.suite
  bytes : IsBytes under.key
  exchange : under.exchange ≡ Tgs

module _ (call : CallRecord) (request : KdcReq) (is : IsCall call) (n : ℕ) (few : n < 2 ^ 64) (fits : Fits n (kdc_req_inner_tree request)) (own_realm : Fits n (realm_tree call.realm)) where
  abbrev body : KdcReqBody
  body = request.req_body.0

  -- the AP request that it carries is as short, and so is what is sealed there
  carried_fits : (ap_req : ApReqInner) (part : EncTicketPartInner) → IsByTicket call request ap_req part → Fits n (ap_req_tree ap_req)
  carried_fits ap_req part by = request_fits n by.value ap_req by.read (padata_short n 1 request by.value fits by.first)

  subkey_bytes : (ap_req : ApReqInner) (part : EncTicketPartInner) (authenticated : Authenticated) (subkey : EncryptionKey) → IsByTicket call request ap_req part → IsOfKey ap_req part authenticated
      → subkey_in authenticated.authenticator ≡ Some subkey → IsBytes subkey.key_value.0
  subkey_bytes ap_req part authenticated subkey by of_key e =
      let opened = opened_fits {T = AuthenticatorInner} authenticator_tree authenticated.suite part.key.0.key_value.0 7 ap_req.authenticator.0 authenticated.authenticator n of_key.opens
      (authenticator_short n ap_req (carried_fits ap_req part by)) in
      (subkey_short n authenticated.authenticator subkey opened e).bytes

  -- what the request asks for by its options
  abbrev asked_by : AskedOptions
  asked_by = asked_options call.settings.policy body.kdc_options.0

  -- the ticket's addresses are the request's
  of_request : (is : Bool) (list : List HostAddress) → (if is then addresses_in body else None) ≡ Some list → addresses_in body ≡ Some list
  of_request true list e = e
  of_request false list e = absurd (cc (e))

  -- what is granted can be written
  further_written : (ap_req : ApReqInner) (part : EncTicketPartInner) (service : PrincipalName) (suite : CipherSuite) (span : Span) (till : Option GeneralizedTime) → IsByTicket call request ap_req part
      → service_of body ≡ Some service → IsWritten Tgs (further_grant call part service suite body span till)
  further_written ap_req part service suite span till by named =
      let own : AccountKeyRecord = chosen ap_req.ticket.0.0.enc_part.0 by.granting in
      let opened = opened_fits {T = EncTicketPartInner} enc_ticket_part_tree own.suite own.key 2 ap_req.ticket.0.0.enc_part.0 part n by.opens
      (ticket_short n ap_req (carried_fits ap_req part by)) in
      let asked = body_fits n request fits in
      is_written n (further_grant call part service suite body span till)
      (record {
        few = few;
        session = session_short suite call.words is.enough is.bytes;
        realm = own_realm;
        client = part_name_fits n part opened;
        service = service_fits n body asked service named;
        nonce = nonce_fits n body asked;
        addresses = λ list e. addresses_fits n body asked list (of_request (asked_by.forwards || asked_by.proxies) list e);
      }) Tgs

  usable : (ap_req : ApReqInner) (part : EncTicketPartInner) (authenticated : Authenticated) → IsByTicket call request ap_req part → IsOfKey ap_req part authenticated
      → (subkey : Option EncryptionKey) → subkey_in authenticated.authenticator ≡ subkey → (under : ReplyKeyRecord) → reply_key authenticated.suite part.key.0.key_value.0 subkey ≡ Some under → IsUsable under
  usable ap_req part authenticated by of_key None none under e =
      let same : under ≡ tgs_reply_key authenticated.suite part.key.0.key_value.0 = cc (e) in
      subst IsUsable (sym same) (record { sized = suite_sized part.key.0 authenticated.suite of_key.suite; bytes = of_key.opens.opens.sealed.2.key_bytes; exchange = refl })
  usable ap_req part authenticated by of_key (Some subkey) some under e = by_suite (suite_of subkey) refl e
    where
      by_suite : (found : Option CipherSuite) → suite_of subkey ≡ found → option_map (λ suite. tgs_subkey_reply_key suite subkey.key_value.0) found ≡ Some under → IsUsable under
      by_suite None f e = absurd (cc (e))
      by_suite (Some suite) f e =
          let same : under ≡ tgs_subkey_reply_key suite subkey.key_value.0 = cc (e) in
          subst IsUsable (sym same) (record { sized = suite_sized subkey suite f; bytes = subkey_bytes ap_req part authenticated subkey by of_key some; exchange = refl })

  has_further : (ap_req : ApReqInner) (part : EncTicketPartInner) (authenticated : Authenticated) (service_name : PrincipalName) (service : AccountRecord)
      → IsByTicket call request ap_req part → IsOfKey ap_req part authenticated → service_of body ≡ Some service_name → IsKeyed service → HasOutcome (further call part authenticated service_name service body)
  has_further ap_req part authenticated service_name service by of_key named keyed =
      let asked = asked_options call.settings.policy body.kdc_options.0 in
      let lifetime : ℕ = limited service call.settings.lifetime in
      let life : ℕ = call.settings.policy.renewable_life in
      let with_till : Span → CipherSuite → Option GeneralizedTime → GrantRecord = λ span suite till. further_grant call part service_name suite body span till in
      let to_seal : Span → CipherSuite → ReplyKeyRecord → Table (Result (List ℕ) ℕ) =
      λ span suite under. further_replied call part service_name service suite under (further_till asked.renews life part span body) body span in
      let to_key : Span → CipherSuite → Table (Result (List ℕ) ℕ) = λ span suite. need (reply_key authenticated.suite part.key.0.key_value.0 (subkey_in authenticated.authenticator)) 31 (to_seal span suite) in
      let to_suite : Span → Table (Result (List ℕ) ℕ) = λ span. need (first_granted (without_des3 call part service) body.etype.0) 14 (to_key span) in
      has_then {A = Unit {0}} (by_options call asked part service_name) (λ _. further_in asked.renews call part authenticated service_name service body) (has_by_options call asked part service_name)
      (λ _ allowed.
      has_then (further_lasting asked.renews lifetime call.moment part body) to_suite (has_further_lasting asked.renews lifetime call.moment part body is.in_time)
      (λ span given.
      has_needed (first_granted (without_des3 call part service) body.etype.0) 14 (to_key span)
      (λ suite e.
      has_needed (reply_key authenticated.suite part.key.0.key_value.0 (subkey_in authenticated.authenticator)) 31 (to_seal span suite)
      (λ under f.
      let ready = usable ap_req part authenticated by of_key (subkey_in authenticated.authenticator) refl under f in
      has_tilled (further_till asked.renews life part span body) (with_till span suite) under service call.words (has_further_till asked.renews life part span body) ready.sized ready.bytes keyed is.enough is.bytes
      (λ till. subst (λ exchange. IsWritten exchange (with_till span suite till)) (sym ready.exchange) (further_written ap_req part service_name suite span till by named))))))

  has_granted : (ap_req : ApReqInner) (part : EncTicketPartInner) (authenticated : Authenticated) → IsByTicket call request ap_req part → IsOfKey ap_req part authenticated → HasOutcome (tgs_granted call part authenticated body)
  has_granted ap_req part authenticated by of_key =
      let to_grant : PrincipalName → AccountRecord → Table (Result (List ℕ) ℕ) = λ service_name service. further call part authenticated service_name service body in
      let by_service : AccountRecord → PrincipalName → AccountRecord → Table (Result (List ℕ) ℕ) =
      λ client service_name service. and_then {A = Unit {0}} (further_allowed call.moment client service) (λ _. to_grant service_name service) in
      let by_name : AccountRecord → PrincipalName → Table (Result (List ℕ) ℕ) = λ client service_name. need (call.look (components service_name)) 7 (by_service client service_name) in
      let by_client : AccountRecord → Table (Result (List ℕ) ℕ) = λ client. need (service_of body) 7 (by_name client) in
      has_needed (call.look (components part.cname.0)) 6 by_client
      (λ client a.
      has_needed (service_of body) 7 (by_name client)
      (λ service_name b.
      has_needed (call.look (components service_name)) 7 (by_service client service_name)
      (λ service c.
      has_then {A = Unit {0}} (further_allowed call.moment client service) (λ _. to_grant service_name service) (has_further_allowed call.moment client service)
      (λ _ d. has_further ap_req part authenticated service_name service by of_key b (is.keyed (components service_name) service c)))))

  has_of_authenticated : (ap_req : ApReqInner) (part : EncTicketPartInner) (authenticated : Authenticated) → IsByTicket call request ap_req part → IsOfKey ap_req part authenticated → HasOutcome (of_authenticated call body part authenticated)
  has_of_authenticated ap_req part authenticated by of_key =
      has_then {A = Unit {0}} (covered authenticated.suite part.key.0.key_value.0 authenticated.authenticator body) (λ _. tgs_granted call part authenticated body)
      (has_covered authenticated.suite part.key.0.key_value.0 authenticated.authenticator body) (λ _ x. has_granted ap_req part authenticated by of_key)

  has_of_ticket : (ap_req : ApReqInner) (part : EncTicketPartInner) → IsByTicket call request ap_req part → HasOutcome (of_ticket call body ap_req part)
  has_of_ticket ap_req part by =
      has_then (authenticated_near call part ap_req) (of_authenticated call body part) (has_authenticated_near call part ap_req)
      (λ authenticated x. has_of_authenticated ap_req part authenticated by (by_authenticator call part ap_req authenticated x))

  pub has_of_carried : (value : List ℕ) (ap_req : ApReqInner) → first_of 1 (padata_in request) ≡ Some value → IsApReq value ap_req → HasOutcome (of_carried call body ap_req)
  has_of_carried value ap_req first read =
      let rest : AccountRecord → Table (Result (List ℕ) ℕ) = λ granting. and_then (ticket_granting call granting ap_req) (of_ticket call body ap_req) in
      has_needed (call.look (krbtgt_of call.realm)) 7 rest
      (λ granting e.
      has_then (ticket_granting call granting ap_req) (of_ticket call body ap_req) (has_ticket_granting call granting ap_req)
      (λ part x. has_of_ticket ap_req part (record { value = value; first = first; read = read; granting = granting; account = e; opens = by_ticket call granting ap_req part x })))

-- a request that is for the realm
header_by : (policy : Policy) (realm : List ℕ) (request : KdcReq) → (to_us policy realm request).gives (Ok tt) → (header_rows 12 realm (beyond policy request) request).gives (Ok tt)
header_by policy realm request (inl (_, x, y)) = x
header_by policy realm request (inr (code, x, e)) = absurd (cc (e))

pub has_tgs_outcome : (call : CallRecord) (request : KdcReq) → IsCall call → (n : ℕ) → n < 2 ^ 64 → Fits n (kdc_req_inner_tree request) → HasOutcome (tgs_table call request)
has_tgs_outcome call request is n few fits =
    let policy = call.settings.policy in
    has_then {A = Unit {0}} (to_us policy call.realm request) (λ _. and_then (carried (padata_in request)) (of_carried call request.req_body.0)) (has_to_us policy call.realm request)
    (λ _ x.
    has_then (carried (padata_in request)) (of_carried call request.req_body.0) (has_carried (padata_in request))
    (λ ap_req y.
    let found = by_padata (padata_in request) ap_req y in
    has_of_carried call request is n few fits (own_realm_fits n 12 call.realm (beyond policy request) request (header_by policy call.realm request x) fits) found.0 ap_req found.1 found.2))
