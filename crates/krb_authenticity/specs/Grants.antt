-- What a realm grants in an exchange, by the rows of its tables (RFC 4120, sections 3.1.3, 3.3.3).
use Rattle.std.specs.Prelude.{◌≡◌, ◌⊎◌, true, Option, None, Some, Ok}
use Rattle.asn1_der.specs.Tree.{der}
use Rattle.asn1_leaves.specs.GeneralizedTime.{seconds_of}
use Rattle.asn1_leaves.specs.declared.date.GeneralizedTime.{GeneralizedTime}
use Rattle.krb_realm_accounts.specs.Account.{AccountRecord}
use Rattle.krb_crypto.specs.declared.suite.CipherSuite.{CipherSuite}
use Rattle.krb_messages.specs.Names.{components, is_same_realm}
use Rattle.krb_messages.specs.declared.data_types.enc_ticket_part.EncTicketPartInner.{EncTicketPartInner}
use Rattle.krb_messages.specs.declared.data_types.principal_name.PrincipalName.{PrincipalName}
use Rattle.krb_messages.specs.Messages.{IsAsReq, IsTgsReq, krb_error_tree}
use Rattle.krb_messages.specs.declared.messages.ap_req.ApReqInner.{ApReqInner}
use Rattle.krb_messages.specs.declared.messages.kdc_req.KdcReq.{KdcReq}
use Rattle.krb_messages.specs.declared.messages.krb_error.KrbErrorInner.{KrbErrorInner}
use Rattle.krb_kdc_exchanges.specs.Rows.{PkinitRows}
use Rattle.krb_tickets.specs.Grant.{GrantRecord}
use Rattle.krb_tickets.specs.Granted.{IsTicketReply}
use Rattle.krb_tickets.specs.ReplyKeys.{ReplyKeyRecord}
use Rattle.krb_ap_requests.specs.declared.presented.Authenticated.{Authenticated}
use Rattle.krb_kdc_exchanges.specs.Allowed.{first_allowed, further_allowed, lifetime_of, limited}
use Rattle.krb_kdc_exchanges.specs.Options.{asked_options}
use Rattle.krb_kdc_exchanges.specs.declared.options.AskedOptions.{AskedOptions}
use Rattle.krb_kdc_exchanges.specs.Renewals.{IsTill}
use Rattle.krb_kdc_exchanges.specs.Requests.{IsSpan, body_of, client_of, service_of}
use Rattle.krb_kdc_exchanges.specs.declared.span.Span.{Span}
use Rattle.krb_kdc_exchanges.specs.AsTable.{authenticated}
use Rattle.krb_kdc_exchanges.specs.Grants.{Principals, initial_grant, initial_till}
use Rattle.krb_kdc_exchanges.specs.ByTicket.{IsByTicket}
use Rattle.krb_kdc_exchanges.specs.TgsTable.{authenticated_near, by_options, covered, further_grant, further_lasting, further_till, reply_key, subkey_in}
use Rattle.krb_authenticity.specs.Parties.{ExchangeRecord}

-- an AS exchange grants this, with this reply key: client and service have accounts, whose attributes allow it, and the realm authenticated the
-- client
pub record IsFirst (rows : PkinitRows) (exchange : ExchangeRecord) (grant : GrantRecord) (under : ReplyKeyRecord) (service : AccountRecord) : Type 0 where
  pub asked : KdcReq
  pub read : IsAsReq exchange.request asked
  pub of_realm : (body_of asked).realm.0 ≡ exchange.call.realm
  pub principals : Principals
  pub client_named : client_of (body_of asked) ≡ Some principals.client_name
  pub client_found : exchange.call.look (components principals.client_name) ≡ Some principals.client
  pub service_named : service_of (body_of asked) ≡ Some principals.service_name
  pub service_found : exchange.call.look (components principals.service_name) ≡ Some principals.service
  pub allowed : (first_allowed exchange.call.moment principals).gives (Ok tt)
  pub span : Span
  pub lasts : IsSpan (lifetime_of exchange.call.settings.lifetime principals.client principals.service) exchange.call.moment None (seconds_of (body_of asked).till.0.0) span
  pub authenticates : (authenticated exchange.call rows principals.client (components principals.client_name) asked).gives (Ok under)
  pub till : Option GeneralizedTime
  pub renews : IsTill (initial_till exchange.call span (body_of asked)) till
  pub grants : grant ≡ initial_grant exchange.call principals (body_of asked) span till
  pub sealed_for : service ≡ principals.service

-- a TGS exchange grants this, with this reply key: the request presents a ticket of this realm, and an authenticator of the ticket's client
-- that covers the request's body, and the presented ticket allows what the request's options ask for
pub record IsFurther (exchange : ExchangeRecord) (grant : GrantRecord) (under : ReplyKeyRecord) (service : AccountRecord) : Type 0 where
  pub asked : KdcReq
  pub read : IsTgsReq exchange.request asked
  pub ap_req : ApReqInner
  pub part : EncTicketPartInner
  pub ticket : IsByTicket exchange.call asked ap_req part
  pub of_realm : is_same_realm part.crealm.0 exchange.call.realm ≡ true
  pub shown : Authenticated
  pub authenticates : (authenticated_near exchange.call part ap_req).gives (Ok shown)
  pub covers : (covered shown.suite part.key.0.key_value.0 shown.authenticator (body_of asked)).gives (Ok tt)
  pub service_name : PrincipalName
  pub service_named : service_of (body_of asked) ≡ Some service_name
  pub service_found : exchange.call.look (components service_name) ≡ Some service
  pub client : AccountRecord
  pub client_found : exchange.call.look (components part.cname.0) ≡ Some client
  pub unrevoked : (further_allowed exchange.call.moment client service).gives (Ok tt)
  pub options : AskedOptions
  pub allows : options ≡ asked_options exchange.call.settings.policy (body_of asked).kdc_options.0
  pub allowed : (by_options exchange.call options part service_name).gives (Ok tt)
  pub suite : CipherSuite
  pub span : Span
  pub lasts : (further_lasting options.renews (limited service exchange.call.settings.lifetime) exchange.call.moment part (body_of asked)).gives (Ok span)
  pub till : Option GeneralizedTime
  pub renews : IsTill (further_till options.renews exchange.call.settings.policy.renewable_life part span (body_of asked)) till
  pub grants : grant ≡ further_grant exchange.call part service_name suite (body_of asked) span till
  pub replies : reply_key shown.suite part.key.0.key_value.0 (subkey_in shown.authenticator) ≡ Some under

-- the exchange's reply has a ticket with this grant, under the key of this account
pub record IsGranted (rows : PkinitRows) (exchange : ExchangeRecord) (grant : GrantRecord) (service : AccountRecord) : Type 0 where
  pub under : ReplyKeyRecord
  pub by : IsFirst rows exchange grant under service ⊎ IsFurther exchange grant under service
  pub replied : IsTicketReply grant under service exchange.call.words exchange.reply

-- the reply grants a ticket, or is a KRB-ERROR
abbrev pub IsGrantOrError : PkinitRows → ExchangeRecord → Type 0
IsGrantOrError rows exchange =
    ((grant : GrantRecord) × (service : AccountRecord) × IsGranted rows exchange grant service)
    ⊎ ((error : KrbErrorInner) × (exchange.reply ≡ der (krb_error_tree error)))
