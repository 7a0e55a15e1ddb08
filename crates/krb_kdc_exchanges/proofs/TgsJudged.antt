-- What the parts of a TGS request's table give, the table gives.
use Rattle.std.proofs.Common.{◌≡◌, ℕ, List, Option, None, Some, Result, Ok, Err, refl, sym, subst, inl}
use Rattle.krb_crypto.specs.declared.suite.CipherSuite.{CipherSuite}
use Rattle.krb_crypto.specs.Keys.{KeyRecord}
use Rattle.krb_realm_accounts.specs.Account.{AccountKeyRecord, AccountRecord}
use Rattle.krb_messages.specs.Refusals.{IsJudged}
use Rattle.krb_messages.specs.declared.data_types.enc_ticket_part.EncTicketPartInner.{EncTicketPartInner}
use Rattle.krb_messages.specs.declared.refusal.Refusal.{Refusal}
use Rattle.krb_messages.specs.declared.messages.ap_req.ApReqInner.{ApReqInner}
use Rattle.krb_messages.specs.declared.messages.kdc_req_body.KdcReqBody.{KdcReqBody}
use Rattle.decision_tables.specs.Tables.{Table, and_then, done, need}
use Rattle.krb_ap_requests.specs.ApTable.{ap_fields, opened_part}
use Rattle.krb_kdc_exchanges.specs.Call.{CallRecord}
use Rattle.krb_kdc_exchanges.specs.Granting.{IsGranted}
use Rattle.krb_kdc_exchanges.specs.declared.granted.Granted.{Granted}
use Rattle.krb_messages.specs.TicketGranting.{krbtgt_of}
use Rattle.krb_kdc_exchanges.proofs.Parts.{part_passed, part_refused}
use Rattle.krb_kdc_exchanges.specs.TgsTable.{client_and_times, granting_by, of_carried, of_ticket, ticket_granting}

-- the ticket that a request presents is judged, by equal keys
module _ (call : CallRecord) (granting : AccountKeyRecord) (ap_req : ApReqInner) (kvno : ℕ) (numbered : kvno ≡ granting.kvno) where
  abbrev fields : ℕ → Table (Result (Unit {0}) ℕ)
  fields n = ap_fields call.realm (krbtgt_of call.realm) n ap_req

  abbrev opening : CipherSuite → List ℕ → Table (Result EncTicketPartInner ℕ)
  opening suite key = opened_part suite key ap_req.ticket.0.0.enc_part.0

  abbrev end : EncTicketPartInner → Table (Result EncTicketPartInner ℕ)
  end part = and_then {A = Unit {0}} (client_and_times call part) (λ _. done (Ok part))

  abbrev pub judged : Result EncTicketPartInner Refusal → Type 0
  judged r = IsJudged (granting_by call granting ap_req).gives r

  own : (r : Result (Unit {0}) Refusal) → IsJudged (fields kvno).gives r → IsJudged (fields granting.kvno).gives r
  own r x = subst (λ n. IsJudged (fields n).gives r) numbered x

  -- another service's, or under another key
  pub fields_refused : (e : Refusal) → IsJudged (fields kvno).gives (Err e) → judged (Err e)
  fields_refused e x = part_refused (fields granting.kvno) (λ _. and_then (opening granting.suite granting.key) end) e (own (Err e) x)

  module _ (key : KeyRecord) (keyed : key ≡ record { suite = granting.suite; bytes = granting.key }) (x : (fields kvno).gives (Ok tt)) where
    opened : (r : Result EncTicketPartInner Refusal) → IsJudged (opening key.suite key.bytes).gives r → IsJudged (opening granting.suite granting.key).gives r
    opened r y = subst (λ (k : KeyRecord). IsJudged (opening k.suite k.bytes).gives r) keyed y

    further : (r : Result EncTicketPartInner Refusal) → IsJudged (and_then (opening granting.suite granting.key) end).gives r → judged r
    further r y = part_passed (fields granting.kvno) (λ _. and_then (opening granting.suite granting.key) end) tt r (own (Ok tt) x) y

    -- it doesn't open
    pub unopened : (e : Refusal) → IsJudged (opening key.suite key.bytes).gives (Err e) → judged (Err e)
    unopened e y = further (Err e) (part_refused (opening granting.suite granting.key) end e (opened (Err e) y))

    -- its client isn't one of this realm, or it isn't valid at the moment
    pub client_or_times_refused : (part : EncTicketPartInner) (e : Refusal) → (opening key.suite key.bytes).gives (Ok part) → IsJudged (client_and_times call part).gives (Err e) → judged (Err e)
    client_or_times_refused part e y z =
        further (Err e)
        (part_passed (opening granting.suite granting.key) end part (Err e) (opened (Ok part) y) (part_refused {A = Unit {0}} (client_and_times call part) (λ _. done (Ok part)) e z))

    pub client_and_times_passed : (part : EncTicketPartInner) → (opening key.suite key.bytes).gives (Ok part) → (client_and_times call part).gives (Ok tt) → judged (Ok part)
    client_and_times_passed part y z = further (Ok part) (inl (part, opened (Ok part) y, inl (tt, z, refl)))

    -- by how client and times were judged
    pub judged_client_and_times : (part : EncTicketPartInner) → (opening key.suite key.bytes).gives (Ok part) → (j : Result (Unit {0}) Refusal) → IsJudged (client_and_times call part).gives j → (r : Result EncTicketPartInner Refusal) → (j ≡ Ok tt → r ≡ Ok part) → ((e : Refusal) → j ≡ Err e → r ≡ Err e) → judged r
    judged_client_and_times part y (Ok tt) z r p q = subst judged (sym (p refl)) (client_and_times_passed part y z)
    judged_client_and_times part y (Err e) z r p q = subst judged (sym (q e refl)) (client_or_times_refused part e y z)

-- by the account of the ticket-granting service, or where it has none
module _ (call : CallRecord) (body : KdcReqBody) (ap_req : ApReqInner) (found : Option AccountRecord) (account : found ≡ call.look (krbtgt_of call.realm)) where
  abbrev rest : AccountRecord → Table (Result (List ℕ) ℕ)
  rest granting = and_then (ticket_granting call granting ap_req) (of_ticket call body ap_req)

  pub unknown : found ≡ None → (of_carried call body ap_req).gives (Err 7)
  unknown none = subst (λ o. (need {A = AccountRecord} o 7 rest).gives (Err 7)) account (subst (λ o. (need {A = AccountRecord} o 7 rest).gives (Err 7)) (sym none) refl)

  pub known : (granting : AccountRecord) (r : Result Granted Refusal) → found ≡ Some granting → IsGranted (rest granting).gives r → IsGranted (of_carried call body ap_req).gives r
  known granting r some x =
      subst (λ o. IsGranted (need {A = AccountRecord} o 7 rest).gives r) account (subst (λ o. IsGranted (need {A = AccountRecord} o 7 rest).gives r) (sym some) x)
