-- What the parts of an AS request's table give, the table gives.
use Rattle.std.proofs.Common.{◌≡◌, ℕ, List, Option, Some, Result, Ok, Err, refl, inl, inr}
use Rattle.krb_messages.specs.declared.messages.kdc_req.KdcReq.{KdcReq}
use Rattle.krb_realm_accounts.specs.Account.{AccountRecord}
use Rattle.krb_messages.specs.Refusals.{IsJudged}
use Rattle.krb_messages.specs.declared.refusal.Refusal.{Refusal}
use Rattle.krb_messages.specs.declared.refusal.Refusal.TheVariants.{Krb, Memory}
use Rattle.decision_tables.specs.Tables.{Table, and_then}
use Rattle.krb_kdc_exchanges.specs.Rows.{PkinitRows}
use Rattle.krb_messages.specs.Names.{components}
use Rattle.krb_tickets.specs.ReplyKeys.{ReplyKeyRecord}
use Rattle.krb_kdc_exchanges.specs.Allowed.{first_allowed, lifetime_of}
use Rattle.krb_kdc_exchanges.specs.AsTable.{as_table, authenticated, possible}
use Rattle.krb_kdc_exchanges.specs.Call.{CallRecord}
use Rattle.krb_kdc_exchanges.specs.Grants.{Principals, granted}
use Rattle.krb_kdc_exchanges.specs.Granting.{IsGranted, IsGrantedTicket}
use Rattle.krb_kdc_exchanges.specs.declared.granted.Granted.{Granted}
use Rattle.krb_kdc_exchanges.specs.Requests.{has_refused_option, header_rows, client_of, service_of}
use Rattle.krb_kdc_exchanges.specs.declared.span.Span.{Span}

-- the request is for this realm, and names client and service, which have these accounts
pub record AreKnown (realm : List ℕ) (of_client of_service : Option AccountRecord) (request : KdcReq) (these : Principals) : Type 0 where
  pub header : (header_rows 10 realm (has_refused_option request.req_body.0.kdc_options.0) request).gives (Ok tt)
  pub client_name : client_of request.req_body.0 ≡ Some these.client_name
  pub client : of_client ≡ Some these.client
  pub service_name : service_of request.req_body.0 ≡ Some these.service_name
  pub service : of_service ≡ Some these.service

module _ (call : CallRecord) (rows : PkinitRows) (client service : Option AccountRecord) (request : KdcReq) (these : Principals) where
  -- what is judged of their accounts
  abbrev pub of_accounts : Result (Unit {0}) Refusal → Type 0
  of_accounts r = IsJudged (first_allowed call.moment these).gives r

  -- of the ticket that they ask for
  abbrev pub of_ticket : Result Span Refusal → Type 0
  of_ticket r = IsJudged (possible call (lifetime_of call.settings.lifetime these.client these.service) these.client.suite request.req_body.0).gives r

  -- and of the client
  abbrev pub of_client : Result ReplyKeyRecord Refusal → Type 0
  of_client r = IsJudged (authenticated call rows these.client (components these.client_name) request).gives r

  abbrev pub answers : Result Granted Refusal → Type 0
  answers r = IsGranted (as_table call rows client service request).gives r

  -- all that is judged of those who are known
  abbrev further : Table (Result (List ℕ) ℕ)
  further =
      and_then {A = Unit {0}} (first_allowed call.moment these) (λ _.
      and_then (possible call (lifetime_of call.settings.lifetime these.client these.service) these.client.suite request.req_body.0) (λ span.
      and_then (authenticated call rows these.client (components these.client_name) request) (λ under.
      granted call these under span request.req_body.0)))

  known : (r : Result Granted Refusal) → AreKnown call.realm client service request these → IsGranted further.gives r → answers r
  known (Ok made) k x = (inl (tt, k.header, rw (k.client_name, k.client, k.service_name, k.service) x.0), x.1)
  known (Err (Krb code)) k x = inl (tt, k.header, rw (k.client_name, k.client, k.service_name, k.service) x)
  known (Err Memory) k x = tt

  accounts_refused : (e : Refusal) → of_accounts (Err e) → IsGranted further.gives (Err e)
  accounts_refused (Krb code) x = inr (code, x, refl)
  accounts_refused Memory x = tt

  ticket_refused : (e : Refusal) → of_accounts (Ok tt) → of_ticket (Err e) → IsGranted further.gives (Err e)
  ticket_refused (Krb code) a x = inl (tt, a, inr (code, x, refl))
  ticket_refused Memory a x = tt

  client_refused : (span : Span) (e : Refusal) → of_accounts (Ok tt) → of_ticket (Ok span) → of_client (Err e) → IsGranted further.gives (Err e)
  client_refused span (Krb code) a t x = inl (tt, a, inl (span, t, inr (code, x, refl)))
  client_refused span Memory a t x = tt

  -- the accounts aren't allowed it
  pub refused_accounts : (e : Refusal) → AreKnown call.realm client service request these → of_accounts (Err e) → answers (Err e)
  refused_accounts e k x = known (Err e) k (accounts_refused e x)

  -- no such ticket is given
  pub refused_ticket : (e : Refusal) → AreKnown call.realm client service request these → of_accounts (Ok tt) → of_ticket (Err e) → answers (Err e)
  refused_ticket e k a x = known (Err e) k (ticket_refused e a x)

  -- the client isn't authenticated
  pub refused_client : (span : Span) (e : Refusal) → AreKnown call.realm client service request these → of_accounts (Ok tt) → of_ticket (Ok span) → of_client (Err e) → answers (Err e)
  refused_client span e k a t x = known (Err e) k (client_refused span e a t x)

  -- the ticket is given
  pub given_ticket : (span : Span) (under : ReplyKeyRecord) (made : Granted) → AreKnown call.realm client service request these → of_accounts (Ok tt) → of_ticket (Ok span) → of_client (Ok under)
      → (granted call these under span request.req_body.0).gives (Ok made.reply.items) → IsGrantedTicket made.reply.items made.ticket → answers (Ok made)
  given_ticket span under made k a t c x y = known (Ok made) k (inl (tt, a, inl (span, t, inl (under, c, x))), y)
