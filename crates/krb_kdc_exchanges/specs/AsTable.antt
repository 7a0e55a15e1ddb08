-- The outcome of an AS request, in parts of one table, row by row: the first case that holds counts (RFC 4120, section 3.1.3).
use Rattle.std.specs.Prelude.{◌*◌, Bool, false, not, List, Option, None, Some, Result, Ok, Err}
use Rattle.std.specs.List.{list_any}
use Rattle.std.specs.Option.{option_map_or}
use Rattle.asn1_leaves.specs.GeneralizedTime.{seconds_of}
use Rattle.picky_asn1.specs.Numbers.{is_number}
use Rattle.picky_asn1.specs.Bytes.{Bytes}
use Rattle.krb_time.specs.Skew.{is_before, is_far}
use Rattle.krb_time.specs.Units.{Seconds}
use Rattle.krb_crypto.specs.declared.suite.CipherSuite.{CipherSuite}
use Rattle.krb_crypto.specs.Suites.{cipher_number}
use Rattle.krb_realm_accounts.specs.Account.{AccountRecord}
use Rattle.krb_messages.specs.declared.data_types.pa_data.PaData.{PaData}
use Rattle.krb_messages.specs.Names.{components}
use Rattle.krb_messages.specs.Refusals.{Code}
use Rattle.krb_constants.specs.declared.error_codes.TheConstants.{KDC_ERR_C_PRINCIPAL_UNKNOWN, KDC_ERR_S_PRINCIPAL_UNKNOWN, KDC_ERR_CANNOT_POSTDATE, KDC_ERR_ETYPE_NOSUPP, KDC_ERR_PREAUTH_FAILED, KDC_ERR_PREAUTH_REQUIRED, KRB_AP_ERR_SKEW}
use Rattle.krb_constants.specs.declared.padata_types.TheConstants.{PA_ENC_TIMESTAMP, PA_PK_AS_REQ}
use Rattle.krb_constants.specs.declared.types.TheConstants.{AS_REQ_MSG_TYPE}
use Rattle.krb_messages.specs.declared.messages.kdc_req.KdcReq.{KdcReq}
use Rattle.krb_messages.specs.declared.messages.kdc_req_body.KdcReqBody.{KdcReqBody}
use Rattle.decision_tables.specs.Tables.{Table, and_then, ask, done, need, refuse}
use Rattle.krb_messages.specs.Padata.{first_of}
use Rattle.krb_kdc_exchanges.specs.EncryptedTimestamps.{IsEncryptedTimestamp, moment_of, sole_encrypted_timestamp}
use Rattle.krb_tickets.specs.ReplyKeys.{ReplyKeyRecord, as_reply_key}
use Rattle.krb_kdc_exchanges.specs.AgreedKeys.{agreed_reply}
use Rattle.krb_kdc_exchanges.specs.Rows.{PkinitRows}
use Rattle.krb_kdc_exchanges.specs.Call.{CallRecord, pkinit_call, skew_of}
use Rattle.krb_kdc_exchanges.specs.Allowed.{first_allowed, lifetime_of}
use Rattle.krb_kdc_exchanges.specs.Grants.{granted}
use Rattle.krb_kdc_exchanges.specs.Requests.{body_of, client_of, has_refused_option, header_rows, lasting, service_of}
use Rattle.krb_messages.specs.Padata.{padata_in}
use Rattle.krb_kdc_exchanges.specs.declared.span.Span.{Span}

-- `from` is later than the moment by more than the skew
abbrev pub is_later : CallRecord → KdcReqBody → Bool
is_later call body = option_map_or (λ from. is_before (skew_of call) call.moment (seconds_of from.0.0 * 1000000)) body.from.0 false

-- `etype` lists the suite
abbrev pub is_listed : CipherSuite → KdcReqBody → Bool
is_listed suite body = list_any (λ etype. is_number (cipher_number suite) etype) body.etype.0

-- the ticket's times, and its suite as the client's `etype` has to list it
abbrev pub possible : CallRecord → Seconds → CipherSuite → KdcReqBody → Table (Result Span Code)
possible call lifetime suite body =
    -- `from` isn't later than now plus the clock skew (RFC 4120, section 3.1.3). Test: `granted, from at skew`,
    -- `from past skew, right PA-PK-AS-REQ` of `pkinit_exchanges.txt`.
    refuse (is_later call body) KDC_ERR_CANNOT_POSTDATE
    (and_then (lasting lifetime call.moment None body) (λ span.
    -- `etype` lists the encryption type of the client's key (RFC 4120, section 3.1.3). Test: `as etype list` of `five_suites.txt`.
    refuse (not (is_listed suite body)) KDC_ERR_ETYPE_NOSUPP
    (done (Ok span))))

-- the client proves by an encrypted timestamp that it has its key
-- Ignored: of several padata PA-ENC-TIMESTAMP, all but the first (RFC 4120, section 5.2.7). Test: `as padata twice, first good`,
-- `as padata twice, first bad`.
-- Not judged: the kvno of the encrypted timestamp (RFC 4120, section 5.2.9). Test: `as rtime, addresses` of `kdc_exchanges.txt`.
-- Not judged: whether `pausec` is there. A missing one counts as 0 (RFC 4120, section 5.2.7.2). Test: `as client krbtgt` of
-- `five_suites.txt`.
abbrev pub timestamped : CallRecord → AccountRecord → List PaData → Table (Result (Unit {0}) Code)
timestamped call client padata =
    -- Padata PA-ENC-TIMESTAMP is there (RFC 4120, section 5.2.7.2). Test: `as no preauthentication`, `as no padata`.
    need (first_of PA_ENC_TIMESTAMP padata) KDC_ERR_PREAUTH_REQUIRED (λ value.
    -- The encrypted timestamp decrypts under the client's key, for key usage 1, to one PA-ENC-TS-ENC (RFC 4120, section 5.2.7.2).
    -- Test: `as PA-ENC-TIMESTAMP wrong key`, `as PA-ENC-TIMESTAMP wrong usage`.
    ask (IsEncryptedTimestamp client value) (sole_encrypted_timestamp client value) (done (Err KDC_ERR_PREAUTH_FAILED)) (λ timestamp.
    -- `pausec` is from 0 to 999,999 (RFC 4120, section 5.2.4). Test: `as microseconds`.
    need (moment_of timestamp) KDC_ERR_PREAUTH_FAILED (λ time.
    -- Clock skew: `patimestamp` and `pausec` differ from now by the skew at most (RFC 4120, section 5.2.7.2). Test: `as skew edges`,
    -- `as skew far`.
    refuse (is_far (skew_of call) call.moment time) KRB_AP_ERR_SKEW
    (done (Ok tt)))))

-- the reply key: the client's own, or by certificate the key that both agree on (RFC 4556, section 3.2.3.1)
abbrev pub authenticated_by : CallRecord → PkinitRows → AccountRecord → List Bytes → KdcReq → Option Bytes → Table (Result ReplyKeyRecord Code)
authenticated_by call rows client name request None =
    and_then (timestamped call client (padata_in request)) (λ _.
    done (Ok (as_reply_key client)))
authenticated_by call rows client name request (Some padata) =
    and_then (rows.judges (pkinit_call call name (body_of request)) padata) (λ agreed.
    -- By certificate the reply key is the one that client and KDC agreed on (RFC 4556, section 3.2.3.1). Test: `granted a suite 18` of
    -- `pkinit_exchanges.txt`.
    done (Ok (agreed_reply call client request agreed)))

-- the reply key, as the first padata PA-PK-AS-REQ gives it, and else the encrypted timestamp
abbrev pub authenticated : CallRecord → PkinitRows → AccountRecord → List Bytes → KdcReq → Table (Result ReplyKeyRecord Code)
authenticated call rows client name request =
    -- Padata PA-PK-AS-REQ wins over PA-ENC-TIMESTAMP (RFC 4556, section 3.2.2). Test: `as PA-PK-AS-REQ and PA-ENC-TIMESTAMP`,
    -- `as PA-PK-AS-REQ and bad PA-ENC-TIMESTAMP`.
    -- Ignored: of several padata PA-PK-AS-REQ, all but the first (RFC 4120, section 5.2.7). Test:
    -- `granted, second PA-PK-AS-REQ unreadable` of `pkinit_exchanges.txt`.
    authenticated_by call rows client name request (first_of PA_PK_AS_REQ (padata_in request))

-- the whole table, for the accounts of client and service if they have one
-- Not judged: `rtime`, `addresses`, `enc-authorization-data` and `additional-tickets`, but `rtime` where the policy grants renewable tickets;
-- the `nonce` is copied, of any size (RFC 4120, section 3.1.3). Test: `as rtime, addresses`, `as sealed authorization data`,
-- `as additional tickets`, `as nonce`.
-- Ignored: the name type of `cname` and of `sname`; names are compared by their components (RFC 4120, section 6.2). Test:
-- `as client type`, `as service type`.
-- Ignored: padata of other types (RFC 4120, section 3.1.3). Test: `as padata among others`.
abbrev pub as_table : CallRecord → PkinitRows → Option AccountRecord → Option AccountRecord → KdcReq → Table (Result Bytes Code)
as_table call rows of_client of_service request =
    and_then (header_rows AS_REQ_MSG_TYPE call.realm (has_refused_option (body_of request).kdc_options.0) request) (λ _.
    -- `cname` is there (RFC 4120, section 3.1.3). Test: `as client absent`.
    need (client_of (body_of request)) KDC_ERR_C_PRINCIPAL_UNKNOWN (λ client_name.
    -- `cname` has an account (RFC 4120, section 3.1.3). Test: `as client unknown`.
    need of_client KDC_ERR_C_PRINCIPAL_UNKNOWN (λ client.
    -- `sname` is there (RFC 4120, section 5.4.1). Test: `as service absent`.
    need (service_of (body_of request)) KDC_ERR_S_PRINCIPAL_UNKNOWN (λ service_name.
    -- `sname` has an account (RFC 4120, section 3.1.3). Test: `as service unknown`.
    need of_service KDC_ERR_S_PRINCIPAL_UNKNOWN (λ service.
    and_then (first_allowed call.moment (record { client_name = client_name; client = client; service_name = service_name; service = service })) (λ _.
    and_then (possible call (lifetime_of call.settings.lifetime client service) client.suite (body_of request)) (λ span.
    and_then (authenticated call rows client (components client_name) request) (λ under.
    -- The ticket has the flags initial and pre-authent, and a session key of the client's suite (RFC 4120, sections 2.1 and 3.1.3).
    -- Test: `as honest` of `kdc_exchanges.txt`.
    -- Without a policy the ticket has no other flag and no renew-till. It has no caddr, and no realm is transited (RFC 4120, section 5.3).
    -- Test: `as honest`.
    -- A ticket is forwardable and proxiable where the client asks for it and the policy allows it (RFC 4120, sections 2.5, 2.6 and 3.1.3).
    -- Test: `as forwardable`, `as proxiable`, `as honest, company` of `company_realms.txt`.
    granted call (record { client_name = client_name; client = client; service_name = service_name; service = service })
    under span (body_of request)))))))))
