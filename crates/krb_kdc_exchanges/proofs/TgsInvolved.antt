-- What the table gives rests on the accounts that are looked up for it.
use Rattle.std.proofs.Common.{◌≡◌, ℕ, List, Option, None, Some, Result, Ok, refl, subst, inl, inr}
use Rattle.krb_realm_accounts.specs.Account.{AccountRecord}
use Rattle.krb_realm_accounts.specs.Accounts.{Look}
use Rattle.krb_messages.specs.Names.{components}
use Rattle.krb_messages.specs.declared.data_types.enc_ticket_part.EncTicketPartInner.{EncTicketPartInner}
use Rattle.krb_messages.specs.declared.data_types.principal_name.PrincipalName.{PrincipalName}
use Rattle.krb_messages.specs.declared.messages.ap_req.ApReqInner.{ApReqInner}
use Rattle.krb_messages.specs.declared.messages.kdc_req.KdcReq.{KdcReq}
use Rattle.decision_tables.specs.Tables.{Table, and_then, need}
use Rattle.krb_ap_requests.specs.declared.presented.Authenticated.{Authenticated}
use Rattle.krb_kdc_exchanges.specs.Allowed.{further_allowed, limited}
use Rattle.krb_kdc_exchanges.specs.Call.{CallRecord}
use Rattle.krb_kdc_exchanges.specs.Options.{asked_options}
use Rattle.krb_kdc_exchanges.specs.Requests.{service_of}
use Rattle.krb_messages.specs.Padata.{padata_in}
use Rattle.krb_messages.specs.TicketGranting.{krbtgt_of}
use Rattle.krb_kdc_exchanges.specs.ByTicket.{IsByTicket, IsInvolvedFurther}
use Rattle.krb_kdc_exchanges.specs.TgsTable.{by_options, carried, covered, first_granted, further, further_lasting, further_replied, further_till, holds_back_des3, of_carried, of_authenticated, of_ticket, authenticated_near, reply_key, subkey_in, tgs_granted, tgs_table, ticket_granting, to_us}
use Rattle.krb_kdc_exchanges.proofs.ByTicket.{by_padata, by_ticket}

-- the value that is needed is the same, and what follows gives the same of it
pub same_need : {A : Type 0} (o p : Option A) → o ≡ p → (code : ℕ) (f g : A → Table (Result (List ℕ) ℕ)) (r : Result (List ℕ) ℕ)
    → ((a : A) → o ≡ Some a → (f a).gives r → (g a).gives r) → (need {A = A} o code f).gives r → (need {A = A} p code g).gives r
same_need None p e code f g r same x = subst (λ q. (need q code g).gives r) e x
same_need (Some a) p e code f g r same x = subst (λ q. (need q code g).gives r) e (same a refl x)

pub same_then : {A : Type 0} (t : Table (Result A ℕ)) (f g : A → Table (Result (List ℕ) ℕ)) (r : Result (List ℕ) ℕ)
    → ((a : A) → t.gives (Ok a) → (f a).gives r → (g a).gives r) → (and_then t f).gives r → (and_then t g).gives r
same_then t f g r same (inl (a, x, y)) = inl (a, x, same a x y)
same_then t f g r same (inr refused) = inr refused

module _ (call : CallRecord) (other : Look) (request : KdcReq) (agree : (these : List (List ℕ)) → IsInvolvedFurther call request these → call.look these ≡ other these) (r : Result (List ℕ) ℕ) where
  abbrev beside : CallRecord
  beside = record call { look = other }

  -- what is granted, by the account of the ticket's client
  abbrev by_client : EncTicketPartInner → Authenticated → PrincipalName → AccountRecord → Option AccountRecord → Table (Result (List ℕ) ℕ)
  by_client part authenticated name service client =
      let body = request.req_body.0 in
      let asked = asked_options call.settings.policy body.kdc_options.0 in
      and_then {A = Unit {0}} (by_options call asked part name) (λ _.
      and_then (further_lasting asked.renews (limited service call.settings.lifetime) call.moment part body) (λ span.
      need (first_granted (holds_back_des3 call.settings.policy client service) body.etype.0) 14 (λ suite.
      need (reply_key authenticated.suite part.key.0.key_value.0 (subkey_in authenticated.authenticator)) 31 (λ under.
      further_replied call part name service suite under (further_till asked.renews call.settings.policy.renewable_life part span body) body span))))

  same_granted : (ap_req : ApReqInner) (part : EncTicketPartInner) (authenticated : Authenticated) → IsByTicket call request ap_req part
      → (tgs_granted call part authenticated request.req_body.0).gives r → (tgs_granted beside part authenticated request.req_body.0).gives r
  same_granted ap_req part authenticated by =
      let body = request.req_body.0 in
      let to_grant : CallRecord → PrincipalName → AccountRecord → Table (Result (List ℕ) ℕ) = λ own name service. further own part authenticated name service body in
      let given : CallRecord → AccountRecord → PrincipalName → AccountRecord → Table (Result (List ℕ) ℕ) =
      λ own client name service. and_then {A = Unit {0}} (further_allowed call.moment client service) (λ _. to_grant own name service) in
      let by_name : CallRecord → AccountRecord → PrincipalName → Table (Result (List ℕ) ℕ) = λ own client name. need (own.look (components name)) 7 (given own client name) in
      let to_service : CallRecord → AccountRecord → Table (Result (List ℕ) ℕ) = λ own client. need (service_of body) 7 (by_name own client) in
      let found = agree (components part.cname.0) (inr (inr (ap_req, part, by, refl))) in
      same_need (call.look (components part.cname.0)) (other (components part.cname.0)) found 6 (to_service call) (to_service beside) r
      (λ client a.
      same_need (service_of body) (service_of body) refl 7 (by_name call client) (by_name beside client) r
      (λ name b.
      same_need (call.look (components name)) (other (components name)) (agree (components name) (inr (inl (name, b, refl)))) 7 (given call client name) (given beside client name) r
      (λ service c.
      same_then {A = Unit {0}} (further_allowed call.moment client service) (λ _. to_grant call name service) (λ _. to_grant beside name service) r
      (λ _ d x. subst (λ own. (by_client part authenticated name service own).gives r) found x))))

  same_of_carried : (ap_req : ApReqInner) → (carried (padata_in request)).gives (Ok ap_req)
      → (of_carried call request.req_body.0 ap_req).gives r → (of_carried beside request.req_body.0 ap_req).gives r
  same_of_carried ap_req x =
      let found = by_padata (padata_in request) ap_req x in
      let body = request.req_body.0 in
      same_need (call.look (krbtgt_of call.realm)) (other (krbtgt_of call.realm)) (agree (krbtgt_of call.realm) (inl refl)) 7
      (λ granting. and_then (ticket_granting call granting ap_req) (of_ticket call body ap_req))
      (λ granting. and_then (ticket_granting call granting ap_req) (of_ticket beside body ap_req)) r
      (λ granting e.
      same_then (ticket_granting call granting ap_req) (of_ticket call body ap_req) (of_ticket beside body ap_req) r
      (λ part y.
      same_then (authenticated_near call part ap_req) (of_authenticated call body part) (of_authenticated beside body part) r
      (λ authenticated z.
      same_then {A = Unit {0}} (covered authenticated.suite part.key.0.key_value.0 authenticated.authenticator body) (λ _. tgs_granted call part authenticated body) (λ _. tgs_granted beside part authenticated body) r
      (λ _ w.
      same_granted ap_req part authenticated
      (record { value = found.0; first = found.1; read = found.2; granting = granting; account = e; opens = by_ticket call granting ap_req part y })))))

  pub same_further : (tgs_table call request).gives r → (tgs_table beside request).gives r
  same_further =
      same_then {A = Unit {0}} (to_us call.settings.policy call.realm request) (λ _. and_then (carried (padata_in request)) (of_carried call request.req_body.0))
      (λ _. and_then (carried (padata_in request)) (of_carried beside request.req_body.0)) r
      (λ _ x.
      same_then (carried (padata_in request)) (of_carried call request.req_body.0) (of_carried beside request.req_body.0) r
      (λ ap_req y. same_of_carried ap_req y))
