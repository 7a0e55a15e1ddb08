use Rattle.std.proofs.Common.{◌∙◌}
use Rattle.krb_kdc.specs.Failing.{FailsTgs}
use Rattle.krb_kdc.proofs.Failing.{granting_failed, presented_failed, service_failed}
use Rattle.krb_kdc.proofs.Fetched.{further_by, ticket_by}
use Rattle.krb_kdc.proofs.Refused.{failed}
use Rattle.krb_kdc.proofs.answer.further_accounts.Goals as goal

pub returns-in-Ok-clause-few : goal.returns-in-Ok-clause-few
returns-in-Ok-clause-few g c = λ all known.
    further_by all _ _ _ _ _ _ _ _ _ c.new-few.ensures (c.deref.ensures.value ∙ c.in_ok-granting.ensures) (c.deref-2.ensures.value ∙ c.in_ok-granting.ensures) c.service_of.ensures
    (c.in_ok-fetch.ensures.few all known) (c.in_ok-ticket.ensures.few all known) (c.in-Ok.ensures.few all known)

pub returns-in-Ok-clause-ticket : goal.returns-in-Ok-clause-ticket
returns-in-Ok-clause-ticket g c = λ all known.
    ticket_by all _ _ _ _ _ _ _ _ _ _ c.new-few.ensures (c.deref.ensures.value ∙ c.in_ok-granting.ensures) (c.deref-2.ensures.value ∙ c.in_ok-granting.ensures)
    (c.in_ok-fetch.ensures.few all known) (c.in_ok-ticket.ensures.few all known) (c.in-Ok.ensures.few all known) c.in_ok-ticket.ensures.ticket

pub returns-in_err-fetch-clause-fault : goal.returns-in_err-fetch-clause-fault
returns-in_err-fetch-clause-fault g c =
    failed (FailsTgs (g.L.Lookup.holds c.args.lookup.now) (g.L.Lookup.may_fail c.args.lookup.now) c.args.call.now c.args.request.now) _ c.from_residual-in_err-fetch.result c.from_residual-in_err-fetch.ensures.1
    (granting_failed (g.L.Lookup.holds c.args.lookup.now) (g.L.Lookup.may_fail c.args.lookup.now) c.args.call.now c.args.request.now _ _
    (c.deref.ensures.value ∙ c.in_ok-granting.ensures) c.in_err-fetch.ensures.fault)

pub returns-in_err-ticket-clause-fault : goal.returns-in_err-ticket-clause-fault
returns-in_err-ticket-clause-fault g c =
    failed (FailsTgs (g.L.Lookup.holds c.args.lookup.now) (g.L.Lookup.may_fail c.args.lookup.now) c.args.call.now c.args.request.now) _ c.from_residual-in_err-ticket.result c.from_residual-in_err-ticket.ensures.1
    (presented_failed (g.L.Lookup.holds c.args.lookup.now) (g.L.Lookup.may_fail c.args.lookup.now) c.args.call.now c.args.request.now _ _ _ _ _ c.new-few.ensures
    (c.deref.ensures.value ∙ c.in_ok-granting.ensures) (c.deref-2.ensures.value ∙ c.in_ok-granting.ensures) c.in_ok-fetch.ensures.few c.in_err-ticket.ensures.fault)

pub returns-clause-fault : goal.returns-clause-fault
returns-clause-fault g c =
    service_failed (g.L.Lookup.holds c.args.lookup.now) (g.L.Lookup.may_fail c.args.lookup.now) c.args.call.now c.args.request.now _ _ c.service_of.ensures c.in-Err.ensures.fault
