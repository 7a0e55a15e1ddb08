-- The first ticket, which a realm grants in an AS exchange (RFC 4120, section 3.1.3).
use Rattle.std.specs.Prelude.{◌&&◌, true, false, None, Option, Result}
use Rattle.std.specs.Option.{is_some}
use Rattle.picky_asn1.specs.BitString.{Bits, bit_of}
use Rattle.picky_asn1.specs.Bytes.{Bytes}
use Rattle.asn1_leaves.specs.declared.date.GeneralizedTime.{GeneralizedTime}
use Rattle.krb_kdc_exchanges.specs.declared.option_bits.TheConstants.{FORWARDABLE, PROXIABLE}
use Rattle.krb_time.specs.Units.{Seconds}
use Rattle.krb_realm_accounts.specs.Account.{AccountRecord}
use Rattle.krb_realm_accounts.specs.declared.policy.Policy.{Policy}
use Rattle.krb_messages.specs.declared.data_types.principal_name.PrincipalName.{PrincipalName}
use Rattle.krb_messages.specs.RandomBytes.{Random}
use Rattle.krb_messages.specs.Refusals.{Code}
use Rattle.krb_messages.specs.declared.messages.kdc_req_body.KdcReqBody.{KdcReqBody}
use Rattle.decision_tables.specs.Tables.{Table, make}
use Rattle.krb_tickets.specs.Grant.{GrantRecord}
use Rattle.krb_tickets.specs.declared.grant.TicketFlags.{TicketFlags}
use Rattle.krb_tickets.specs.Parts.{session_key_of}
use Rattle.krb_tickets.specs.ReplyKeys.{ReplyKeyRecord}
use Rattle.krb_kdc_exchanges.specs.Call.{CallRecord}
use Rattle.krb_kdc_exchanges.specs.Granting.{replied}
use Rattle.krb_kdc_exchanges.specs.Renewals.{IsTill, asked_till, granted_till, sole_till}
use Rattle.krb_kdc_exchanges.specs.declared.span.Span.{Span}
use Rattle.krb_kdc_exchanges.specs.declared.as_exchange.grant.Principals as held

-- the client and the service of a request, with their accounts
pub record Principals : Type 0 where
  pub client_name : PrincipalName
  pub client : AccountRecord
  pub service_name : PrincipalName
  pub service : AccountRecord

-- The principals of a granted request, which the code borrows.
abbrev pub principals_of : held.Principals → Principals
principals_of these = record {
  client_name = these.client_name.now;
  client = these.client.now;
  service_name = these.service_name.now;
  service = these.service.now;
}

-- the flags of a first ticket: initial and pre-authent, and forwardable and proxiable where the request asks for it and the policy allows
-- it; it is renewable if it has a renew-till
abbrev pub initial_flags : Policy → Bits → Option GeneralizedTime → TicketFlags
initial_flags policy options till = record {
  forwardable = bit_of options FORWARDABLE && policy.forwardable;
  forwarded = false;
  proxiable = bit_of options PROXIABLE && policy.proxiable;
  proxy = false;
  renewable = is_some till;
  initial = true;
  pre_authenticated = true;
}

-- the first ticket: a session key of the client's suite, its flags and renew-till, and the request's names and nonce
abbrev pub initial_grant : CallRecord → Principals → KdcReqBody → Span → Option GeneralizedTime → GrantRecord
initial_grant call principals body span till = record {
  suite = principals.client.suite;
  session = session_key_of principals.client.suite call.words;
  realm = call.realm;
  client = principals.client_name;
  service = principals.service_name;
  flags = initial_flags call.settings.policy body.kdc_options.0 till;
  auth_time = span.starttime;
  starttime = span.starttime;
  endtime = span.endtime;
  renew_till = till;
  addresses = None;
  nonce = body.nonce.0;
}

-- the renew-till of a first ticket, if it has one
abbrev pub initial_till : CallRecord → Span → KdcReqBody → Option Seconds
initial_till call span body = granted_till call.settings.policy.renewable_life span None (asked_till body)

-- the reply that grants the first ticket
abbrev pub granted : CallRecord → Principals → ReplyKeyRecord → Span → KdcReqBody → Table (Result Bytes Code)
granted call principals under span body =
    -- A ticket is renewable by the option renewable up to `rtime`, or by renewable-ok up to `till`, but at most for the policy's renewable
    -- life, where that is after the endtime (RFC 4120, section 3.1.3). Test: `as renewable`, `as renewable-ok`, `as renewable, no rtime`,
    -- `as renewable, rtime before the end`, `as renewable-ok, till within the lifetime` of `company_realms.txt`.
    make (IsTill (initial_till call span body)) (sole_till (initial_till call span body)) (λ till.
    replied (initial_grant call principals body span till) under principals.service call.words)
