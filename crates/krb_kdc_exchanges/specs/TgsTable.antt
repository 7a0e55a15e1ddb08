-- The outcome of a TGS request, in parts of one table, row by row: the first case that holds counts (RFC 4120, section 3.3.3).
use Rattle.std.specs.Prelude.{Bool, true, false, not, ◌&&◌, ◌||◌, List, Option, None, Some, Result, Ok, Err, ℤ, if◌then◌else◌}
use Rattle.std.specs.Bool.{nat_eq}
use Rattle.std.specs.Cmp.Lexicographic.{pointwise}
use Rattle.std.specs.List.{find, list_any}
use Rattle.std.specs.Option.{is_some, option_map, option_map_or}
use Rattle.picky_asn1.specs.BitString.{Bits, bit_of}
use Rattle.asn1_leaves.specs.GeneralizedTime.{seconds_of}
use Rattle.asn1_leaves.specs.declared.date.GeneralizedTime.{GeneralizedTime}
use Rattle.picky_asn1.specs.Numbers.{is_number}
use Rattle.picky_asn1.specs.Bytes.{Bytes}
use Rattle.krb_time.specs.Skew.{is_far}
use Rattle.krb_time.specs.Units.{Micros, Seconds}
use Rattle.krb_crypto.specs.declared.suite.CipherSuite.{CipherSuite}
use Rattle.krb_crypto.specs.declared.suite.CipherSuite.TheVariants.{Des3CbcSha1Kd}
use Rattle.krb_crypto.specs.declared.suite.ChecksumSuite.{ChecksumSuite}
use Rattle.krb_crypto.specs.Sealing.{checksum_of}
use Rattle.krb_crypto.specs.Suites.{checksum_number, checksum_suites, cipher_checksum, cipher_number, cipher_suites}
use Rattle.krb_realm_accounts.specs.Account.{AccountKeyRecord, AccountRecord}
use Rattle.krb_realm_accounts.specs.declared.policy.Policy.{Policy}
use Rattle.krb_messages.specs.Names.{components, is_same_name, is_same_realm}
use Rattle.krb_messages.specs.declared.data_types.authenticator.AuthenticatorInner.{AuthenticatorInner}
use Rattle.krb_messages.specs.declared.data_types.checksum.Checksum.{Checksum}
use Rattle.krb_messages.specs.declared.data_types.enc_ticket_part.EncTicketPartInner.{EncTicketPartInner}
use Rattle.krb_messages.specs.declared.data_types.encryption_key.EncryptionKey.{EncryptionKey}
use Rattle.krb_messages.specs.declared.data_types.host_address.HostAddress.{HostAddress}
use Rattle.krb_messages.specs.declared.data_types.pa_data.PaData.{PaData}
use Rattle.krb_messages.specs.declared.data_types.principal_name.PrincipalName.{PrincipalName}
use Rattle.krb_messages.specs.Refusals.{Code}
use Rattle.krb_constants.specs.declared.error_codes.TheConstants.{KDC_ERR_C_PRINCIPAL_UNKNOWN, KDC_ERR_S_PRINCIPAL_UNKNOWN, KDC_ERR_POLICY, KDC_ERR_BADOPTION, KDC_ERR_SERVER_NOMATCH, KDC_ERR_ETYPE_NOSUPP, KDC_ERR_SUMTYPE_NOSUPP, KDC_ERR_PADATA_TYPE_NOSUPP, KRB_AP_ERR_BAD_INTEGRITY, KRB_AP_ERR_TKT_EXPIRED, KRB_AP_ERR_SKEW, KRB_AP_ERR_MODIFIED, KRB_AP_ERR_INAPP_CKSUM, KDC_ERR_WRONG_REALM}
use Rattle.krb_constants.specs.KeyUsages.{key_usage}
use Rattle.krb_constants.specs.declared.key_usages.TheConstants.{TGS_REQ_PA_DATA_AP_REQ_AUTHENTICATOR, TGS_REQ_PA_DATA_AP_REQ_AUTHENTICATOR_CKSUM}
use Rattle.krb_constants.specs.declared.padata_types.TheConstants.{PA_TGS_REQ}
use Rattle.krb_constants.specs.declared.ticket_flags.TheConstants.{PRE_AUTHENT}
use Rattle.krb_constants.specs.declared.types.TheConstants.{TGS_REQ_MSG_TYPE}
use Rattle.krb_tickets.specs.Keys.{suite_of}
use Rattle.krb_messages.specs.declared.messages.ap_req.ApReqInner.{ApReqInner}
use Rattle.krb_messages.specs.declared.messages.kdc_req.KdcReq.{KdcReq}
use Rattle.krb_messages.specs.declared.messages.kdc_req_body.KdcReqBody.{KdcReqBody}
use Rattle.krb_messages.specs.Messages.{IsApReq, sole_ap_req}
use Rattle.decision_tables.specs.Tables.{Table, and_then, ask, done, make, need, refuse}
use Rattle.krb_messages.specs.Padata.{first_of}
use Rattle.krb_tickets.specs.Grant.{GrantRecord}
use Rattle.krb_tickets.specs.declared.flag_bits.TheConstants as flag
use Rattle.krb_tickets.specs.declared.grant.TicketFlags.{TicketFlags}
use Rattle.krb_tickets.specs.Parts.{session_key_of}
use Rattle.krb_tickets.specs.ReplyKeys.{ReplyKeyRecord, tgs_reply_key, tgs_subkey_reply_key}
use Rattle.krb_ap_requests.specs.ApTable.{ap_fields, authenticated, enc_part_in, opened_part, timely}
use Rattle.krb_ap_requests.specs.declared.presented.Authenticated.{Authenticated}
use Rattle.krb_kdc_exchanges.specs.Call.{CallRecord, skew_of}
use Rattle.krb_kdc_exchanges.specs.Allowed.{further_allowed, limited}
use Rattle.krb_kdc_exchanges.specs.ChosenKeys.{chosen}
use Rattle.krb_kdc_exchanges.specs.Granting.{replied}
use Rattle.krb_kdc_exchanges.specs.Options.{asked_options, has_option_beyond}
use Rattle.krb_kdc_exchanges.specs.Renewals.{IsTill, asked_till, granted_till, is_outlived, is_renewable, life_of, renew_till_of, sole_till}
use Rattle.krb_kdc_exchanges.specs.Requests.{body_of, header_rows, lasting, lasting_to, service_of}
use Rattle.krb_kdc_exchanges.specs.Times.{no_end}
use Rattle.krb_kdc_exchanges.specs.declared.option_bits.TheConstants as option
use Rattle.krb_kdc_exchanges.specs.declared.options.AskedOptions.{AskedOptions}
use Rattle.krb_messages.specs.Padata.{padata_in}
use Rattle.krb_messages.specs.Bodies.{body_bytes}
use Rattle.krb_messages.specs.TicketGranting.{krbtgt_of}
use Rattle.krb_kdc_exchanges.specs.declared.span.Span.{Span}

-- the request is a TGS request to this realm, with options that the policy allows, and without `enc-authorization-data`, with which no
-- ticket is granted
abbrev pub to_us : Policy → Bytes → KdcReq → Table (Result (Unit {0}) Code)
to_us policy realm request =
    and_then (header_rows TGS_REQ_MSG_TYPE realm (has_option_beyond policy (body_of request).kdc_options.0) request) (λ _.
    -- There is no `enc-authorization-data` (RFC 4120, section 5.4.1). Test: `tgs sealed authorization data`.
    refuse (is_some (body_of request).enc_authorization_data.0) KDC_ERR_POLICY
    (done (Ok tt)))

-- the AP-REQ that the first padata PA-TGS-REQ is
abbrev pub carried : List PaData → Table (Result ApReqInner Code)
carried padata =
    -- Padata PA-TGS-REQ is there. Of several the first counts (RFC 4120, section 5.2.7.1). Test: `tgs no padata`, `tgs other padata`,
    -- `tgs padata twice, first bad`.
    need (first_of PA_TGS_REQ padata) KDC_ERR_PADATA_TYPE_NOSUPP (λ value.
    -- PA-TGS-REQ is the DER encoding of one AP-REQ (RFC 4120, section 5.2.7.1). Test: `tgs AP-REQ junk`, `tgs AP-REQ long length`.
    ask (IsApReq value) (sole_ap_req value) (done (Err KRB_AP_ERR_MODIFIED)) (λ ap_req.
    done (Ok ap_req)))

-- the ticket's client is one of this realm, and the ticket is valid at the moment
abbrev pub client_and_times : CallRecord → EncTicketPartInner → Table (Result (Unit {0}) Code)
client_and_times call part =
    -- The ticket's `crealm` is this realm (RFC 4120, section 3.3.3). Test: `tgs ticket client realm`.
    refuse (not (is_same_realm part.crealm.0 call.realm)) KDC_ERR_WRONG_REALM
    (timely (skew_of call) call.moment part)

-- the part of the presented ticket, which is for the realm's ticket-granting service, by this key
abbrev pub granting_by : CallRecord → AccountKeyRecord → ApReqInner → Table (Result EncTicketPartInner Code)
granting_by call own ap_req =
    and_then (ap_fields call.realm (krbtgt_of call.realm) own.kvno ap_req) (λ _.
    and_then (opened_part own.suite own.key (enc_part_in ap_req)) (λ part.
    and_then (client_and_times call part) (λ _.
    done (Ok part))))

-- The part of the presented ticket, by the key of the ticket-granting service that has its kvno.
-- A ticket opens under an older key of krbtgt, by its kvno, as long as the account has it (RFC 4120, section 5.2.9). Test:
-- `tgs older key`, `tgs older key, no kvno`, `tgs purged key`.
abbrev pub ticket_granting : CallRecord → AccountRecord → ApReqInner → Table (Result EncTicketPartInner Code)
ticket_granting call granting ap_req = granting_by call (chosen (enc_part_in ap_req) granting) ap_req

-- The authenticator of a TGS request decrypts under the session key, for key usage 7 (RFC 4120, section 7.5.1).
-- Test: `tgs authenticator wrong usage`.
abbrev pub authenticated_near : CallRecord → EncTicketPartInner → ApReqInner → Table (Result Authenticated Code)
authenticated_near call part ap_req =
    and_then (authenticated (key_usage TGS_REQ_PA_DATA_AP_REQ_AUTHENTICATOR) part ap_req.authenticator.0) (λ authenticated.
    -- Clock skew: the authenticator's `ctime` and `cusec` differ from now by the skew at most (RFC 4120, section 3.2.3). Test:
    -- `tgs authenticator skew far`, `tgs authenticator skew edges`.
    refuse (is_far (skew_of call) call.moment authenticated.time) KRB_AP_ERR_SKEW
    (done (Ok authenticated)))

-- the authenticator's `cksum`
abbrev pub checksum_in : AuthenticatorInner → Option Checksum
checksum_in authenticator = option_map (λ tagged. tagged.0) authenticator.cksum.0

-- the checksum type is a suite's: of triple DES (RFC 3961, section 6.3), AES (RFC 3962, section 7) or AES with SHA-2 (RFC 8009, section 6)
abbrev pub is_known_checksum : ℤ → Bool
is_known_checksum kind = list_any (λ suite. is_number (checksum_number suite) kind) checksum_suites

-- the checksum is that of the body's encoding under the session key (key usage 6; RFC 4120, section 7.5.1)
abbrev pub is_of_body : ChecksumSuite → Bytes → KdcReqBody → Checksum → Bool
is_of_body kind key body checksum =
    pointwise nat_eq checksum.checksum.0 (checksum_of kind key (key_usage TGS_REQ_PA_DATA_AP_REQ_AUTHENTICATOR_CKSUM) (body_bytes body))

-- the authenticator's checksum covers the request's body
abbrev pub covered : CipherSuite → Bytes → AuthenticatorInner → KdcReqBody → Table (Result (Unit {0}) Code)
covered suite key authenticator body =
    -- The authenticator has a `cksum` (RFC 4120, section 3.3.2). Test: `tgs checksum missing`.
    need (checksum_in authenticator) KRB_AP_ERR_INAPP_CKSUM (λ checksum.
    -- `cksumtype` is 12, 15, 16, 19 or 20 (RFC 4120, section 3.3.2). Test: `tgs checksum unknown type`.
    refuse (not (is_known_checksum checksum.cksumtype.0)) KDC_ERR_SUMTYPE_NOSUPP
    -- `cksumtype` is that of the session key's suite (RFC 4120, section 3.3.2). Test: `tgs checksum other suite` of `five_suites.txt`.
    (refuse (not (is_number (checksum_number (cipher_checksum suite)) checksum.cksumtype.0)) KRB_AP_ERR_INAPP_CKSUM
    -- `cksum` is the checksum of the DER encoding of `req-body`, for key usage 6 (RFC 4120, sections 3.3.2 and 7.5.1). Test:
    -- `tgs checksum differs`, `tgs checksum wrong usage`, `tgs body changed after the checksum`.
    (refuse (not (is_of_body (cipher_checksum suite) key body checksum)) KRB_AP_ERR_MODIFIED
    (done (Ok tt)))))

-- the suite of an encryption type
abbrev pub suite_numbered : ℤ → Option CipherSuite
suite_numbered number = find (λ suite. is_number (cipher_number suite) number) cipher_suites

-- the suite is triple DES
abbrev pub is_des3 : CipherSuite → Bool
is_des3 Des3CbcSha1Kd = true
is_des3 _ = false

-- the account, if there is one, has a key of triple DES
abbrev pub has_des3_key : Option AccountRecord → Bool
has_des3_key account = option_map_or (λ own. is_des3 own.suite) account false

-- Session keys of triple DES are held back: the policy limits them, and neither client nor service has a key of triple DES.
abbrev pub holds_back_des3 : Policy → Option AccountRecord → AccountRecord → Bool
holds_back_des3 policy client service = policy.limits_des3 && not (has_des3_key client || has_des3_key (Some service))

-- the same for the client of a presented ticket
abbrev pub without_des3 : CallRecord → EncTicketPartInner → AccountRecord → Bool
without_des3 call part service = holds_back_des3 call.settings.policy (call.look (components part.cname.0)) service

-- session keys of the suite are granted: of each, unless those of triple DES are held back
abbrev pub is_granted : Bool → CipherSuite → Bool
is_granted without suite = not (without && is_des3 suite)

-- the first encryption type, in the client's order, that is that of a granted suite
abbrev pub first_number : Bool → List ℤ → Option ℤ
first_number without numbers = find (λ number. option_map_or (is_granted without) (suite_numbered number) false) numbers

-- the suite of the first such encryption type
abbrev pub suite_of_first : Option ℤ → Option CipherSuite
suite_of_first None = None
suite_of_first (Some number) = suite_numbered number

-- the first granted suite that the client's `etype` lists
abbrev pub first_granted : Bool → List ℤ → Option CipherSuite
first_granted without numbers = suite_of_first (first_number without numbers)

-- the authenticator's subkey
abbrev pub subkey_in : AuthenticatorInner → Option EncryptionKey
subkey_in authenticator = option_map (λ tagged. tagged.0) authenticator.subkey.0

-- the reply key that is a subkey, if its type and length are a suite's
abbrev pub under_subkey : EncryptionKey → Option ReplyKeyRecord
under_subkey subkey = option_map (λ suite. tgs_subkey_reply_key suite subkey.key_value.0) (suite_of subkey)

-- The reply key is the authenticator's subkey, and without one the session key (RFC 4120, section 3.3.3). Test: `tgs subkey`, `tgs honest`
-- of `kdc_exchanges.txt`.
abbrev pub reply_key : CipherSuite → Bytes → Option EncryptionKey → Option ReplyKeyRecord
reply_key suite key None = Some (tgs_reply_key suite key)
reply_key suite key (Some subkey) = under_subkey subkey

-- the name is that of the realm's ticket-granting service
abbrev pub is_granting : Bytes → List Bytes → Bool
is_granting realm name = is_same_name name (krbtgt_of realm)

-- what the options renew, forwarded and proxy need of the presented ticket and of the service that is asked for
abbrev pub by_options : CallRecord → AskedOptions → EncTicketPartInner → PrincipalName → Table (Result (Unit {0}) Code)
by_options call asked part service_name =
    -- By forwarded the presented ticket is forwardable (RFC 4120, section 3.3.3). Test: `tgs forwarded, not forwardable`,
    -- `tgs forwarded` of `company_realms.txt`.
    refuse (asked.forwards && not (bit_of part.flags.0 flag.FORWARDABLE)) KDC_ERR_BADOPTION
    -- By proxy the presented ticket is proxiable (RFC 4120, section 3.3.3). Test: `tgs proxy, not proxiable`, `tgs proxy` of
    -- `company_realms.txt`.
    (refuse (asked.proxies && not (bit_of part.flags.0 flag.PROXIABLE)) KDC_ERR_BADOPTION
    -- By renew the presented ticket is renewable, and has a renew-till (RFC 4120, section 3.3.3). Test: `tgs renew, not renewable`,
    -- `tgs renew, no renew-till`, `tgs renew` of `company_realms.txt`.
    (refuse (asked.renews && not (is_renewable part)) KDC_ERR_BADOPTION
    -- By renew its renew-till is after now (RFC 4120, section 3.3.3). Test: `tgs renew, renew-till edges` of `company_realms.txt`.
    (refuse (asked.renews && is_outlived call.moment part) KRB_AP_ERR_TKT_EXPIRED
    -- By renew and forwarded `sname` is the ticket-granting service, as in the presented ticket (RFC 4120, sections 3.3.1 and 7.5.9). Test:
    -- `tgs renew for a service`, `tgs forwarded for a service` of `company_realms.txt`.
    (refuse ((asked.renews || asked.forwards) && not (is_granting call.realm (components service_name))) KDC_ERR_SERVER_NOMATCH
    -- By proxy `sname` isn't the ticket-granting service (RFC 4120, section 3.3.3). Test: `tgs proxy for krbtgt` of `company_realms.txt`.
    (refuse (asked.proxies && is_granting call.realm (components service_name)) KDC_ERR_BADOPTION
    (done (Ok tt)))))))

-- the seconds in which the ticket starts and ends
abbrev pub further_lasting : Bool → Seconds → Micros → EncTicketPartInner → KdcReqBody → Table (Result Span Code)
further_lasting false lifetime moment part body = lasting lifetime moment (Some (seconds_of part.endtime.0.0)) body
further_lasting true lifetime moment part body =
    -- A renewed ticket ends with its renew-till, or earlier: it lasts as long as the presented one at most (RFC 4120, section 3.3.3). Test:
    -- `tgs renew`, `tgs renew, last days`, `tgs renew, no starttime` of `company_realms.txt`.
    -- Ignored: the `till` of a request by renew (RFC 4120, section 3.3.3). Test: `tgs renew, till past` of
    -- `company_realms.txt`.
    lasting_to (life_of part) moment (renew_till_of part) no_end

-- the renew-till that is asked for by a renewable ticket, and none by another one
abbrev pub further_asked : EncTicketPartInner → KdcReqBody → Option Seconds
further_asked part body = if is_renewable part then asked_till body else None

-- the ticket's renew-till, if it has one
abbrev pub further_till : Bool → Seconds → EncTicketPartInner → Span → KdcReqBody → Option Seconds
further_till false life part span body = granted_till life span (renew_till_of part) (further_asked part body)
further_till true life part span body =
    -- A renewed ticket has the renew-till of the presented one (RFC 4120, section 3.3.3). Test: `tgs renew` of `company_realms.txt`.
    renew_till_of part

-- the ticket's flags: forwardable and proxiable as far as the presented ticket has them, forwarded by option or as the presented ticket has
-- it, proxy by option, and pre-authent as the presented ticket has it; the flag initial isn't set (RFC 4120, section 5.3)
abbrev pub further_flags : Policy → AskedOptions → Bits → Bits → Option GeneralizedTime → TicketFlags
further_flags policy asked options old till = record {
  forwardable = (bit_of options option.FORWARDABLE && bit_of old flag.FORWARDABLE) && policy.forwardable;
  forwarded = asked.forwards || (bit_of old flag.FORWARDED && policy.forwardable);
  proxiable = (bit_of options option.PROXIABLE && bit_of old flag.PROXIABLE) && policy.proxiable;
  proxy = asked.proxies;
  renewable = is_some till;
  initial = false;
  pre_authenticated = bit_of old PRE_AUTHENT;
}

-- the flags of what a request with these options is granted by the presented ticket
abbrev pub granted_flags : Policy → EncTicketPartInner → KdcReqBody → Option GeneralizedTime → TicketFlags
granted_flags policy part body till = further_flags policy (asked_options policy body.kdc_options.0) body.kdc_options.0 part.flags.0 till

-- the addresses of a request
abbrev pub addresses_in : KdcReqBody → Option (List HostAddress)
addresses_in body = option_map (λ tagged. tagged.0) body.addresses.0

-- the ticket's addresses: those of a request for a forwarded ticket or a proxy
abbrev pub further_addresses : AskedOptions → KdcReqBody → Option (List HostAddress)
further_addresses asked body = if asked.forwards || asked.proxies then addresses_in body else None

-- the ticket: client and authtime are the presented ticket's
abbrev pub further_grant : CallRecord → EncTicketPartInner → PrincipalName → CipherSuite → KdcReqBody → Span → Option GeneralizedTime → GrantRecord
further_grant call part service suite body span till = record {
  suite = suite;
  session = session_key_of suite call.words;
  realm = call.realm;
  client = part.cname.0;
  service = service;
  flags = granted_flags call.settings.policy part body till;
  auth_time = part.auth_time.0.0;
  starttime = span.starttime;
  endtime = span.endtime;
  renew_till = till;
  addresses = further_addresses (asked_options call.settings.policy body.kdc_options.0) body;
  nonce = body.nonce.0;
}

-- the reply that grants this ticket with its renew-till, if it has one, sealed under the reply key
abbrev pub further_replied : CallRecord → EncTicketPartInner → PrincipalName → AccountRecord → CipherSuite → ReplyKeyRecord → Option Seconds → KdcReqBody → Span → Table (Result Bytes Code)
further_replied call part service_name service suite under wanted body span =
    -- The ticket has client, authtime and flag pre-authent of the presented ticket; the flag initial isn't set (RFC 4120, section
    -- 3.3.3). Test: `tgs honest`, `tgs ticket flags short`.
    -- A ticket is forwardable and proxiable where the client asks for it, the presented ticket is, and the policy allows it (RFC 4120,
    -- sections 2.5, 2.6 and 3.3.3). Test: `tgs forwardable`, `tgs forwardable by another one`, `tgs proxiable` of `company_realms.txt`.
    -- A ticket that is granted by a forwarded one is forwarded (RFC 4120, section 2.6). Test: `tgs by forwarded` of `company_realms.txt`.
    -- A ticket is renewable where the presented one is, at most up to its renew-till (RFC 4120, section 3.3.3). Test: `tgs renewable`,
    -- `tgs renewable by another one` of `company_realms.txt`.
    -- A forwarded ticket and a proxy have the `addresses` of the request as caddr, and no other ticket has any (RFC 4120, section 3.3.3). Test:
    -- `tgs forwarded, addresses`, `tgs proxy, addresses`, `tgs addresses without an option`, `tgs renew, addresses` of `company_realms.txt`.
    -- Ignored: the presented ticket's authorization-data, caddr and transited, and without a policy its renew-till: nothing of them is in the
    -- new ticket (RFC 4120, section 3.3.3). Test: `tgs short options` of `kdc_exchanges.txt`.
    make (IsTill wanted) (sole_till wanted) (λ till.
    replied (further_grant call part service_name suite body span till) under service call.words)

-- the rows behind those for options: the ticket's times, the suite of its session key, and the reply key
abbrev pub further_in : Bool → CallRecord → EncTicketPartInner → Authenticated → PrincipalName → AccountRecord → KdcReqBody → Table (Result Bytes Code)
further_in renews call part authenticated service_name service body =
    and_then (further_lasting renews (limited service call.settings.lifetime) call.moment part body) (λ span.
    -- `etype` lists a known encryption type; the session key is of the first that is known (RFC 4120, section 3.3.3). Test:
    -- `tgs no known suite`, `tgs first known suite` of `five_suites.txt`.
    -- Where the policy limits triple DES, a session key is of it only if client or service has such a key (RFC 8429, section 7). Test:
    -- `tgs des3 first, limited`, `tgs des3 alone, limited` of `file_realms.txt`.
    need (first_granted (without_des3 call part service) body.etype.0) KDC_ERR_ETYPE_NOSUPP (λ suite.
    -- The type and length of the authenticator's subkey are a suite's, if there is one (RFC 3961, section 3). Test: `tgs subkey type`,
    -- `tgs subkey length` of `five_suites.txt`.
    need (reply_key authenticated.suite part.key.0.key_value.0 (subkey_in authenticated.authenticator)) KRB_AP_ERR_BAD_INTEGRITY (λ under.
    further_replied call part service_name service suite under (further_till renews call.settings.policy.renewable_life part span body) body span)))

-- the reply that grants the ticket, by the options of the request and then the further rows
abbrev pub further_by : AskedOptions → CallRecord → EncTicketPartInner → Authenticated → PrincipalName → AccountRecord → KdcReqBody → Table (Result Bytes Code)
further_by asked call part authenticated service_name service body =
    and_then (by_options call asked part service_name) (λ _.
    further_in asked.renews call part authenticated service_name service body)

-- the reply that grants the ticket
abbrev pub further : CallRecord → EncTicketPartInner → Authenticated → PrincipalName → AccountRecord → KdcReqBody → Table (Result Bytes Code)
further call part authenticated service_name service body =
    further_by (asked_options call.settings.policy body.kdc_options.0) call part authenticated service_name service body

-- the reply to a client with this account, for a service with this one, where their attributes allow it
abbrev pub allowed_further : CallRecord → EncTicketPartInner → Authenticated → AccountRecord → PrincipalName → AccountRecord → KdcReqBody → Table (Result Bytes Code)
allowed_further call part authenticated client service_name service body =
    and_then (further_allowed call.moment client service) (λ _.
    further call part authenticated service_name service body)

-- the reply to the ticket's client, whose authenticator covers the body: client and service still have accounts
abbrev pub tgs_granted : CallRecord → EncTicketPartInner → Authenticated → KdcReqBody → Table (Result Bytes Code)
tgs_granted call part authenticated body =
    -- The ticket's client still has an account (RFC 4120, section 3.3.3). Test: `tgs client no account, service unknown`.
    need (call.look (components part.cname.0)) KDC_ERR_C_PRINCIPAL_UNKNOWN (λ client.
    -- `sname` is there (RFC 4120, section 5.4.1). Test: `tgs service absent`.
    need (service_of body) KDC_ERR_S_PRINCIPAL_UNKNOWN (λ service_name.
    -- `sname` has an account (RFC 4120, section 3.3.3). Test: `tgs service unknown`.
    need (call.look (components service_name)) KDC_ERR_S_PRINCIPAL_UNKNOWN (λ service.
    allowed_further call part authenticated client service_name service body)))

-- the rows that read the authenticator: its checksum covers the body, and the ticket is granted
abbrev pub of_authenticated : CallRecord → KdcReqBody → EncTicketPartInner → Authenticated → Table (Result Bytes Code)
of_authenticated call body part authenticated =
    and_then (covered authenticated.suite part.key.0.key_value.0 authenticated.authenticator body) (λ _.
    tgs_granted call part authenticated body)

-- the rows that read the ticket's part: its client's authenticator, and what this grants
abbrev pub of_ticket : CallRecord → KdcReqBody → ApReqInner → EncTicketPartInner → Table (Result Bytes Code)
of_ticket call body ap_req part =
    and_then (authenticated_near call part ap_req)
    (of_authenticated call body part)

-- the rows that read the AP-REQ: its ticket is for the realm's ticket-granting service, and its authenticator the client's
abbrev pub of_carried : CallRecord → KdcReqBody → ApReqInner → Table (Result Bytes Code)
of_carried call body ap_req =
    -- The realm has the account of `krbtgt` (RFC 4120, section 7.3). Test: `tgs no krbtgt` of `file_realms.txt`.
    need (call.look (krbtgt_of call.realm)) KDC_ERR_S_PRINCIPAL_UNKNOWN (λ granting.
    and_then (ticket_granting call granting ap_req)
    (of_ticket call body ap_req))

-- the whole table
-- Not judged: replay, since a realm remembers nothing between requests (RFC 4120, section 3.3.2). No test: the contract alone covers it.
-- Not judged: `from`, `rtime`, `addresses`, the body's `cname` and `additional-tickets`, but `rtime` where the policy grants renewable tickets
-- (RFC 4120, section 3.3.3). Test: `tgs from edges`, `tgs body client`, `tgs additional tickets`, `tgs rtime, addresses` of
-- `five_suites.txt`.
-- Not judged: the ticket's caddr, transited and authorization-data, and the authenticator's seq-number and authorization-data (RFC 4120,
-- sections 5.3 and 5.5.1). Test: `tgs short options`, `tgs authenticator extras` of `kdc_exchanges.txt`.
-- Ignored: padata of other types (RFC 4120, section 3.3.2). Test: `tgs padata among others` of `five_suites.txt`.
-- Ignored: the name type of `sname`; names are compared by their components (RFC 4120, section 6.2). Test: `tgs service type` of
-- `five_suites.txt`.
abbrev pub tgs_table : CallRecord → KdcReq → Table (Result Bytes Code)
tgs_table call request =
    and_then (to_us call.settings.policy call.realm request) (λ _.
    and_then (carried (padata_in request))
    (of_carried call (body_of request)))
