use Rattle.std.proofs.Common.{Err, ap, ◌∙◌}
use Rattle.std.specs.Option.{option_copied}
use Rattle.std.proofs.lemmas.Result.{err_from_is_err_and}
use Rattle.krb_kdc_exchanges.specs.Call.{call_of}
use Rattle.krb_kdc_exchanges.proofs.Parts.{grant_passed, grant_refused}
use Rattle.krb_kdc_exchanges.specs.TgsTable.{of_ticket, ticket_granting}
use Rattle.krb_kdc_exchanges.proofs.TgsJudged.{known, unknown}
use Rattle.krb_kdc_exchanges.proofs.tgs_exchange.whole.judge_carried.Goals as goal

pub returns-in_default : goal.returns-in_default
returns-in_default c =
    unknown (call_of c.args.call.now) c.args.body.now c.args.ap_req.now (option_copied c.get.result) (rw (c.deref.ensures.value ∙ c.in_ok-name.ensures) at c.get.ensures) (ap (λ o. option_copied o) c.in_default.is)

pub returns-in_err-part : goal.returns-in_err-part
returns-in_err-part c =
    let call = call_of c.args.call.now in
    let granting = c.in-Some.granting.now in
    let exit = err_from_is_err_and c.from_residual-in_err-part.result c.from_residual-in_err-part.ensures.1 in
    rw (exit.1, exit.2)
    (known call c.args.body.now c.args.ap_req.now (option_copied c.get.result) (rw (c.deref.ensures.value ∙ c.in_ok-name.ensures) at c.get.ensures) granting (Err c.in_err-part.field-0.0) (ap (λ o. option_copied o) c.in-Some.is)
    (grant_refused (ticket_granting call granting c.args.ap_req.now) (of_ticket call c.args.body.now c.args.ap_req.now) c.in_err-part.field-0.0 c.in_err-part.ensures))

pub returns : goal.returns
returns c =
    let call = call_of c.args.call.now in
    let granting = c.in-Some.granting.now in
    known call c.args.body.now c.args.ap_req.now (option_copied c.get.result) (rw (c.deref.ensures.value ∙ c.in_ok-name.ensures) at c.get.ensures) granting c.judge_ticket-judged.result (ap (λ o. option_copied o) c.in-Some.is)
    (grant_passed (ticket_granting call granting c.args.ap_req.now) (of_ticket call c.args.body.now c.args.ap_req.now) c.in_ok-part.part c.judge_ticket-judged.result c.in_ok-part.ensures c.judge_ticket-judged.ensures)
