-- The table of AS requests has an outcome: each part of it has one.
use Rattle.std.proofs.Common.{◌≡◌, ◌<◌, ℕ, ◌^◌, Bool, true, false, not, ◌&&◌, List, length, Option, None, Some, Result, Ok, Err, refl, sym, subst, inl, inr}
use Rattle.asn1_leaves.specs.declared.date.GeneralizedTime.{GeneralizedTime}
use Rattle.krb_tickets.specs.Grant.{GrantRecord}
use Rattle.krb_time.specs.Skew.{is_far}
use Rattle.krb_crypto.specs.declared.suite.CipherSuite.{CipherSuite}
use Rattle.krb_realm_accounts.specs.Account.{AccountRecord}
use Rattle.krb_messages.specs.declared.data_types.pa_data.PaData.{PaData}
use Rattle.krb_messages.specs.declared.data_types.pa_enc_timestamp.PaEncTsEnc.{PaEncTsEnc}
use Rattle.krb_messages.specs.declared.data_types.principal_name.PrincipalName.{PrincipalName}
use Rattle.krb_messages.specs.MessageTrees.{kdc_req_inner_tree}
use Rattle.krb_messages.specs.declared.messages.kdc_req.KdcReq.{KdcReq}
use Rattle.krb_messages.specs.declared.messages.kdc_req_body.KdcReqBody.{KdcReqBody}
use Rattle.decision_tables.specs.Tables.{Table, and_then, ask, done, need, refuse}
use Rattle.decision_tables.proofs.Outcomes.{HasOutcome, has_asked, has_done, has_needed, has_refused, has_then}
use Rattle.krb_messages.specs.Padata.{first_of}
use Rattle.krb_kdc_exchanges.specs.EncryptedTimestamps.{IsEncryptedTimestamp, moment_of, sole_encrypted_timestamp}
use Rattle.krb_tickets.specs.declared.reply.Exchange.TheVariants.{As}
use Rattle.block_ciphers.specs.Bytes.{IsBytes}
use Rattle.krb_crypto.specs.Suites.{cipher_key_size}
use Rattle.krb_messages.specs.Names.{components}
use Rattle.krb_tickets.specs.ReplyKeys.{ReplyKeyRecord, as_reply_key}
use Rattle.krb_tickets.specs.declared.reply.Exchange.{Exchange}
use Rattle.krb_crypto.proofs.AgreedKeyLemmas.{agreed_key-sized, agreed_key-bytes}
use Rattle.pkinit_messages.specs.Contexts.{ContextRecord}
use Rattle.pkinit_messages.specs.declared.agility.kdf.Kdf.{Kdf}
use Rattle.pkinit_messages.proofs.KeyLemmas.{derived_key-sized, derived_key-bytes}
use Rattle.krb_kdc_exchanges.specs.AgreedKeys.{agreed_reply, kdf_context, key_by}
use Rattle.krb_kdc_exchanges.specs.Rows.{PkinitRows}
use Rattle.krb_kdc_exchanges.specs.Allowed.{changes_passwords, first_allowed, has_ended, lifetime_of}
use Rattle.krb_kdc_exchanges.specs.AsTable.{as_table, authenticated, authenticated_by, is_later, is_listed, possible, timestamped}
use Rattle.krb_kdc_exchanges.specs.Call.{CallRecord, pkinit_call, skew_of}
use Rattle.krb_kdc_exchanges.specs.Calls.{IsCall, IsKeyed}
use Rattle.krb_kdc_exchanges.specs.Grants.{Principals, granted, initial_grant, initial_till}
use Rattle.krb_kdc_exchanges.specs.Requests.{has_refused_option, header_rows, client_of, lasting, service_of}
use Rattle.krb_kdc_exchanges.specs.Renewals.{asked_till}
use Rattle.krb_messages.specs.Padata.{padata_in}
use Rattle.krb_kdc_exchanges.specs.declared.span.Span.{Span}
use Rattle.krb_kdc_exchanges.proofs.HasGrant.{has_granted_till, has_header, has_lasting, has_tilled}
use Rattle.krb_kdc_exchanges.proofs.RequestTrees.{body_fits, client_fits, nonce_fits, service_fits}
use Rattle.krb_kdc_exchanges.proofs.Short.{Fits}
use Rattle.krb_kdc_exchanges.proofs.Written.{IsWritten, is_written, own_realm_fits, session_short}

abbrev in_suite : CipherSuite → KdcReqBody → Span → Table (Result Span ℕ)
in_suite suite body span = refuse (not (is_listed suite body)) 14 (done (Ok span))

has_first_allowed : (moment : ℕ) (these : Principals) → HasOutcome (first_allowed moment these)
has_first_allowed moment these =
    rows (has_ended moment these.client) (has_ended moment these.service) (these.client.attributes.must_change && not (changes_passwords (components these.service_name)))
    these.client.attributes.is_off these.service.attributes.is_off these.service.attributes.is_no_service
  where
    rows : (a b c d e f : Bool) → HasOutcome (refuse {T = Unit {0}} {E = ℕ} a 1 (refuse b 2 (refuse c 23 (refuse d 18 (refuse e 7 (refuse f 12 (done (Ok tt))))))))
    rows true b c d e f = has_done (Err 1)
    rows false true c d e f = has_done (Err 2)
    rows false false true d e f = has_done (Err 23)
    rows false false false true e f = has_done (Err 18)
    rows false false false false true f = has_done (Err 7)
    rows false false false false false true = has_done (Err 12)
    rows false false false false false false = has_done (Ok tt)

has_possible : (call : CallRecord) (lifetime : ℕ) (suite : CipherSuite) (body : KdcReqBody) → IsCall call → HasOutcome (possible call lifetime suite body)
has_possible call lifetime suite body is =
    has_refused {T = Span} (is_later call body) 10 (and_then (lasting lifetime call.moment None body) (in_suite suite body))
    (λ _. has_then (lasting lifetime call.moment None body) (in_suite suite body) (has_lasting lifetime call.moment None body is.in_time)
    (λ span _. has_refused {T = Span} (not (is_listed suite body)) 14 (done (Ok span)) (λ _. has_done (Ok span))))

has_near : (moment : Option ℕ) (far : ℕ → Bool) → HasOutcome (need {A = ℕ} {T = Unit {0}} {E = ℕ} moment 24 (λ time. refuse (far time) 37 (done (Ok tt))))
has_near None far = has_done (Err 24)
has_near (Some time) far = has_refused {T = Unit {0}} (far time) 37 (done (Ok tt)) (λ _. has_done (Ok tt))

abbrev near : CallRecord → PaEncTsEnc → Table (Result (Unit {0}) ℕ)
near call timestamp = need (moment_of timestamp) 24 (λ time. refuse (is_far (skew_of call) call.moment time) 37 (done (Ok tt)))

abbrev encrypted_timestamp : CallRecord → AccountRecord → List ℕ → Table (Result (Unit {0}) ℕ)
encrypted_timestamp call client value = ask (IsEncryptedTimestamp client value) (sole_encrypted_timestamp client value) (done (Err 24)) (near call)

has_timestamped : (call : CallRecord) (client : AccountRecord) (padata : List PaData) → HasOutcome (timestamped call client padata)
has_timestamped call client padata =
    has_needed (first_of 2 padata) 25 (encrypted_timestamp call client)
    (λ value e. has_asked (IsEncryptedTimestamp client value) (sole_encrypted_timestamp client value) (done (Err 24)) (near call) (has_done (Err 24)) (λ timestamp x. has_near (moment_of timestamp) (is_far (skew_of call) call.moment)))

-- an agreed key is a key of its suite
key_by-sized : (suite : CipherSuite) (kdf : Option Kdf) (secret : List ℕ) (context : ContextRecord) → length (key_by suite kdf secret context) ≡ cipher_key_size suite
key_by-sized suite None secret context = agreed_key-sized suite secret
key_by-sized suite (Some kdf) secret context = derived_key-sized suite kdf secret context

key_by-bytes : (suite : CipherSuite) (kdf : Option Kdf) (secret : List ℕ) (context : ContextRecord) → IsBytes (key_by suite kdf secret context)
key_by-bytes suite None secret context = agreed_key-bytes suite secret
key_by-bytes suite (Some kdf) secret context = derived_key-bytes suite kdf secret context

-- the client is authenticated by a timestamp or by certificate, or refused
module _ (call : CallRecord) (rows : PkinitRows) (client : AccountRecord) (name : List (List ℕ)) (request : KdcReq) where
  has_by : (padata : Option (List ℕ)) → HasOutcome (authenticated_by call rows client name request padata)
  has_by None =
      has_then {A = Unit {0}} (timestamped call client (padata_in request)) (λ _. done (Ok (as_reply_key client))) (has_timestamped call client (padata_in request)) (λ _ _. has_done (Ok (as_reply_key client)))
  has_by (Some padata) =
      has_then (rows.judges (pkinit_call call name request.req_body.0) padata)
      (λ agreed. done (Ok (agreed_reply call client request agreed)))
      (rows.some (pkinit_call call name request.req_body.0) padata) (λ agreed a. has_done (Ok (agreed_reply call client request agreed)))

  has_authenticated : HasOutcome (authenticated call rows client name request)
  has_authenticated = has_by (first_of 16 (padata_in request))

  -- under a key of its suite, in an AS exchange
  pub record IsUnder (under : ReplyKeyRecord) : Type 0 where
    pub exchange : under.exchange ≡ As
    pub sized : length under.key ≡ cipher_key_size under.suite
    pub bytes : IsBytes under.key

  of_one : {A : Type 0} (a b : A) → (let r : Result A ℕ = Ok a in r) ≡ Ok b → a ≡ b
  of_one a b e = cc (e)

  under_by : IsKeyed client → (padata : Option (List ℕ)) (under : ReplyKeyRecord) → (authenticated_by call rows client name request padata).gives (Ok under) → IsUnder under
  under_by keyed None under (inl x) =
      subst (λ (u : ReplyKeyRecord). IsUnder u) (sym (of_one under (as_reply_key client) x.2)) (record { exchange = refl; sized = keyed.sized; bytes = keyed.bytes })
  under_by keyed None under (inr x) = absurd (cc (x.2))
  under_by keyed (Some padata) under (inl x) =
      let context : ContextRecord = kdf_context call request x.0.reply in
      subst (λ (u : ReplyKeyRecord). IsUnder u) (sym (of_one under (agreed_reply call client request x.0) x.2))
      (record {
        exchange = refl;
        sized = key_by-sized client.suite x.0.kdf x.0.secret context;
        bytes = key_by-bytes client.suite x.0.kdf x.0.secret context;
      })
  under_by keyed (Some padata) under (inr x) = absurd (cc (x.2))

-- the parts of the table, from the last one on
module _ (call : CallRecord) (rows : PkinitRows) (of_client of_service : Option AccountRecord) (request : KdcReq) where
  abbrev asked_by : PrincipalName → AccountRecord → PrincipalName → AccountRecord → Principals
  asked_by client_name client service_name service = record { client_name = client_name; client = client; service_name = service_name; service = service }

  abbrev to_prove : Principals → Span → Table (Result (List ℕ) ℕ)
  to_prove principals span =
      and_then (authenticated call rows principals.client (components principals.client_name) request) (λ under. granted call principals under span request.req_body.0)

  abbrev lifetime : Principals → ℕ
  lifetime principals = lifetime_of call.settings.lifetime principals.client principals.service

  abbrev to_be_possible : Principals → Table (Result (List ℕ) ℕ)
  to_be_possible principals = and_then (possible call (lifetime principals) principals.client.suite request.req_body.0) (to_prove principals)

  abbrev to_be_allowed : Principals → Table (Result (List ℕ) ℕ)
  to_be_allowed principals = and_then {A = Unit {0}} (first_allowed call.moment principals) (λ _. to_be_possible principals)

  abbrev by_service : PrincipalName → AccountRecord → PrincipalName → AccountRecord → Table (Result (List ℕ) ℕ)
  by_service client_name client service_name service = to_be_allowed (asked_by client_name client service_name service)

  abbrev by_service_name : PrincipalName → AccountRecord → PrincipalName → Table (Result (List ℕ) ℕ)
  by_service_name client_name client service_name = need of_service 7 (by_service client_name client service_name)

  abbrev by_client : PrincipalName → AccountRecord → Table (Result (List ℕ) ℕ)
  by_client client_name client = need (service_of request.req_body.0) 7 (by_service_name client_name client)

  abbrev by_client_name : PrincipalName → Table (Result (List ℕ) ℕ)
  by_client_name client_name = need of_client 6 (by_client client_name)

  abbrev to_name : Table (Result (List ℕ) ℕ)
  to_name = need (client_of request.req_body.0) 6 by_client_name

  -- the request names these, whose accounts have keys
  pub record AreAsked (principals : Principals) : Type 0 where
    pub client_name : client_of request.req_body.0 ≡ Some principals.client_name
    pub client : IsKeyed principals.client
    pub service_name : service_of request.req_body.0 ≡ Some principals.service_name
    pub service : IsKeyed principals.service

  -- the request's options are refused or not
  abbrev refused : Bool
  refused = has_refused_option request.req_body.0.kdc_options.0

  -- what is granted with a renew-till or without
  abbrev with_till : Principals → Span → Option GeneralizedTime → GrantRecord
  with_till principals span till = initial_grant call principals request.req_body.0 span till

  module _ (is : IsCall call) (n : ℕ) (few : n < 2 ^ 64) (fits : Fits n (kdc_req_inner_tree request)) where
    -- what it is granted can be written
    first_written : (principals : Principals) (span : Span) (till : Option GeneralizedTime) → (header_rows 10 call.realm refused request).gives (Ok tt) → AreAsked principals
        → IsWritten As (with_till principals span till)
    first_written principals span till to_us these =
        let body = body_fits n request fits in
        is_written n (with_till principals span till)
        (record {
          few = few;
          session = session_short principals.client.suite call.words is.enough is.bytes;
          realm = own_realm_fits n 10 call.realm refused request to_us fits;
          client = client_fits n request.req_body.0 body principals.client_name these.client_name;
          service = service_fits n request.req_body.0 body principals.service_name these.service_name;
          nonce = nonce_fits n request.req_body.0 body;
          addresses = λ list e. absurd (cc (e));
        }) As

    has_grant : (principals : Principals) → (header_rows 10 call.realm refused request).gives (Ok tt) → AreAsked principals → HasOutcome (to_be_possible principals)
    has_grant principals to_us these =
        has_then (possible call (lifetime principals) principals.client.suite request.req_body.0) (to_prove principals)
        (has_possible call (lifetime principals) principals.client.suite request.req_body.0 is)
        (λ span given.
        has_then (authenticated call rows principals.client (components principals.client_name) request) (λ under. granted call principals under span request.req_body.0)
        (has_authenticated call rows principals.client (components principals.client_name) request)
        (λ under x.
        let is_under = under_by call rows principals.client (components principals.client_name) request these.client (first_of 16 (padata_in request)) under x in
        has_tilled (initial_till call span request.req_body.0) (with_till principals span) under principals.service call.words
        (has_granted_till call.settings.policy.renewable_life span None (asked_till request.req_body.0)) is_under.sized is_under.bytes these.service is.enough is.bytes
        (λ till. subst (λ (e : Exchange). IsWritten e (with_till principals span till)) (sym is_under.exchange) (first_written principals span till to_us these))))

    has_allowed : (principals : Principals) → (header_rows 10 call.realm refused request).gives (Ok tt) → AreAsked principals → HasOutcome (to_be_allowed principals)
    has_allowed principals to_us these =
        has_then {A = Unit {0}} (first_allowed call.moment principals) (λ _. to_be_possible principals) (has_first_allowed call.moment principals)
        (λ _ allowed. has_grant principals to_us these)

    pub has_as_outcome : ((client : AccountRecord) → of_client ≡ Some client → IsKeyed client) → ((service : AccountRecord) → of_service ≡ Some service → IsKeyed service)
        → HasOutcome (as_table call rows of_client of_service request)
    has_as_outcome client_keyed service_keyed =
        has_then {A = Unit {0}} (header_rows 10 call.realm refused request) (λ _. to_name) (has_header 10 call.realm refused request)
        (λ _ x.
        has_needed (client_of request.req_body.0) 6 by_client_name
        (λ client_name a.
        has_needed of_client 6 (by_client client_name)
        (λ client b.
        has_needed (service_of request.req_body.0) 7 (by_service_name client_name client)
        (λ service_name c.
        has_needed of_service 7 (by_service client_name client service_name)
        (λ service d.
        has_allowed (asked_by client_name client service_name service) x
        (record { client_name = a; client = client_keyed client b; service_name = c; service = service_keyed service d }))))))
