-- The tables of a realm that sets no policy, written out where a policy may change them: what is granted has no flag but initial and
-- pre-authent, and no renew-till, and renew, forwarded and proxy are refused.
use Rattle.std.specs.Prelude.{◌≡◌, true, false, List, Option, None, Some, Result, Ok}
use Rattle.std.specs.Option.{is_some}
use Rattle.picky_asn1.specs.BitString.{bit_of}
use Rattle.picky_asn1.specs.Bytes.{Bytes}
use Rattle.asn1_leaves.specs.GeneralizedTime.{seconds_of}
use Rattle.krb_crypto.specs.declared.suite.CipherSuite.{CipherSuite}
use Rattle.krb_realm_accounts.specs.Account.{AccountRecord}
use Rattle.krb_realm_accounts.specs.Accounts.{Look}
use Rattle.krb_realm_accounts.specs.declared.attributes.TheConstants.{NO_ATTRIBUTES}
use Rattle.krb_realm_accounts.specs.declared.policy.TheConstants.{NO_POLICY}
use Rattle.krb_constants.specs.declared.error_codes.TheConstants.{KDC_ERR_C_PRINCIPAL_UNKNOWN, KDC_ERR_S_PRINCIPAL_UNKNOWN, KDC_ERR_POLICY, KDC_ERR_ETYPE_NOSUPP, KRB_AP_ERR_BAD_INTEGRITY}
use Rattle.krb_constants.specs.declared.ticket_flags.TheConstants.{PRE_AUTHENT}
use Rattle.krb_constants.specs.declared.types.TheConstants.{AS_REQ_MSG_TYPE, TGS_REQ_MSG_TYPE}
use Rattle.krb_messages.specs.Names.{components}
use Rattle.krb_messages.specs.Padata.{padata_in}
use Rattle.krb_messages.specs.Refusals.{Code}
use Rattle.krb_messages.specs.TicketGranting.{krbtgt_of}
use Rattle.krb_messages.specs.declared.data_types.enc_ticket_part.EncTicketPartInner.{EncTicketPartInner}
use Rattle.krb_messages.specs.declared.data_types.principal_name.PrincipalName.{PrincipalName}
use Rattle.krb_messages.specs.declared.messages.ap_req.ApReqInner.{ApReqInner}
use Rattle.krb_messages.specs.declared.messages.kdc_req.KdcReq.{KdcReq}
use Rattle.krb_messages.specs.declared.messages.kdc_req_body.KdcReqBody.{KdcReqBody}
use Rattle.decision_tables.specs.Tables.{Table, and_then, done, need, refuse}
use Rattle.krb_tickets.specs.Grant.{GrantRecord}
use Rattle.krb_tickets.specs.Parts.{plain_flags, session_key_of}
use Rattle.krb_ap_requests.specs.declared.presented.Authenticated.{Authenticated}
use Rattle.krb_kdc_exchanges.specs.Allowed.{first_allowed, further_allowed, lifetime_of, limited}
use Rattle.krb_kdc_exchanges.specs.AsTable.{authenticated, possible}
use Rattle.krb_kdc_exchanges.specs.Call.{CallRecord}
use Rattle.krb_kdc_exchanges.specs.Granting.{replied}
use Rattle.krb_kdc_exchanges.specs.Grants.{Principals}
use Rattle.krb_kdc_exchanges.specs.Requests.{body_of, client_of, has_refused_option, header_rows, lasting, service_of}
use Rattle.krb_kdc_exchanges.specs.Rows.{PkinitRows}
use Rattle.krb_kdc_exchanges.specs.TgsTable.{authenticated_near, carried, covered, first_granted, reply_key, subkey_in, ticket_granting}
use Rattle.krb_kdc_exchanges.specs.declared.span.Span.{Span}

-- the same call to a realm that sets no policy
abbrev pub without_policy : CallRecord → CallRecord
without_policy call = record call { settings = record { skew = call.settings.skew; lifetime = call.settings.lifetime; policy = NO_POLICY } }

-- the first ticket
abbrev pub plain_initial : CallRecord → Principals → KdcReqBody → Span → GrantRecord
plain_initial call principals body span = record {
  suite = principals.client.suite;
  session = session_key_of principals.client.suite call.words;
  realm = call.realm;
  client = principals.client_name;
  service = principals.service_name;
  flags = plain_flags true true;
  auth_time = span.starttime;
  starttime = span.starttime;
  endtime = span.endtime;
  renew_till = None;
  addresses = None;
  nonce = body.nonce.0;
}

-- the table of AS requests
abbrev pub plain_as_table : CallRecord → PkinitRows → Option AccountRecord → Option AccountRecord → KdcReq → Table (Result Bytes Code)
plain_as_table call rows of_client of_service request =
    and_then (header_rows AS_REQ_MSG_TYPE call.realm (has_refused_option (body_of request).kdc_options.0) request) (λ _.
    need (client_of (body_of request)) KDC_ERR_C_PRINCIPAL_UNKNOWN (λ client_name.
    need of_client KDC_ERR_C_PRINCIPAL_UNKNOWN (λ client.
    need (service_of (body_of request)) KDC_ERR_S_PRINCIPAL_UNKNOWN (λ service_name.
    need of_service KDC_ERR_S_PRINCIPAL_UNKNOWN (λ service.
    and_then (first_allowed call.moment (record { client_name = client_name; client = client; service_name = service_name; service = service })) (λ _.
    and_then (possible call (lifetime_of call.settings.lifetime client service) client.suite (body_of request)) (λ span.
    and_then (authenticated call rows client (components client_name) request) (λ under.
    replied (plain_initial call (record { client_name = client_name; client = client; service_name = service_name; service = service }) (body_of request) span)
    under service call.words))))))))

-- the service ticket: client, authtime and flag pre-authent are the presented ticket's
abbrev pub plain_further : CallRecord → EncTicketPartInner → PrincipalName → CipherSuite → KdcReqBody → Span → GrantRecord
plain_further call part service suite body span = record {
  suite = suite;
  session = session_key_of suite call.words;
  realm = call.realm;
  client = part.cname.0;
  service = service;
  flags = plain_flags false (bit_of part.flags.0 PRE_AUTHENT);
  auth_time = part.auth_time.0.0;
  starttime = span.starttime;
  endtime = span.endtime;
  renew_till = None;
  addresses = None;
  nonce = body.nonce.0;
}

-- the reply that grants the service ticket
abbrev pub plain_granted : CallRecord → EncTicketPartInner → Authenticated → PrincipalName → AccountRecord → KdcReqBody → Table (Result Bytes Code)
plain_granted call part authenticated service_name service body =
    and_then (lasting (limited service call.settings.lifetime) call.moment (Some (seconds_of part.endtime.0.0)) body) (λ span.
    need (first_granted false body.etype.0) KDC_ERR_ETYPE_NOSUPP (λ suite.
    need (reply_key authenticated.suite part.key.0.key_value.0 (subkey_in authenticated.authenticator)) KRB_AP_ERR_BAD_INTEGRITY (λ under.
    replied (plain_further call part service_name suite body span) under service call.words)))

-- the rows behind the AP-REQ
abbrev pub plain_of_carried : CallRecord → KdcReqBody → ApReqInner → Table (Result Bytes Code)
plain_of_carried call body ap_req =
    need (call.look (krbtgt_of call.realm)) KDC_ERR_S_PRINCIPAL_UNKNOWN (λ granting.
    and_then (ticket_granting call granting ap_req) (λ part.
    and_then (authenticated_near call part ap_req) (λ authenticated.
    and_then (covered authenticated.suite part.key.0.key_value.0 authenticated.authenticator body) (λ _.
    need (call.look (components part.cname.0)) KDC_ERR_C_PRINCIPAL_UNKNOWN (λ client.
    need (service_of body) KDC_ERR_S_PRINCIPAL_UNKNOWN (λ service_name.
    need (call.look (components service_name)) KDC_ERR_S_PRINCIPAL_UNKNOWN (λ service.
    and_then (further_allowed call.moment client service) (λ _.
    plain_granted call part authenticated service_name service body))))))))

-- a TGS request to this realm, without an option that is refused in an AS request too, and without `enc-authorization-data`
abbrev pub plain_to_us : Bytes → KdcReq → Table (Result (Unit {0}) Code)
plain_to_us realm request =
    and_then (header_rows TGS_REQ_MSG_TYPE realm (has_refused_option (body_of request).kdc_options.0) request) (λ _.
    refuse (is_some (body_of request).enc_authorization_data.0) KDC_ERR_POLICY
    (done (Ok tt)))

-- the table of TGS requests
abbrev pub plain_tgs_table : CallRecord → KdcReq → Table (Result Bytes Code)
plain_tgs_table call request =
    and_then (plain_to_us call.realm request) (λ _.
    and_then (carried (padata_in request))
    (plain_of_carried call (body_of request)))

-- nobody sets an attribute for the account
abbrev pub IsFree : AccountRecord → Type 0
IsFree account = account.attributes ≡ NO_ATTRIBUTES

-- nobody sets one for any account that is looked up
abbrev pub AreFree : Look → Type 0
AreFree look = (name : List Bytes) (account : AccountRecord) → look name ≡ Some account → IsFree account
