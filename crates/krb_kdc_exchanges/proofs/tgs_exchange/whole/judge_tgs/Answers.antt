use Rattle.std.proofs.Common.{Ok, Err, subst}
use Rattle.std.proofs.lemmas.Result.{err_from_is_err_and}
use Rattle.decision_tables.specs.Tables.{and_then}
use Rattle.krb_messages.specs.Refusals.{IsJudged}
use Rattle.krb_kdc_exchanges.specs.Call.{call_of}
use Rattle.krb_messages.specs.Padata.{padata_in}
use Rattle.krb_kdc_exchanges.proofs.Parts.{grant_passed, grant_refused}
use Rattle.krb_kdc_exchanges.specs.TgsTable.{carried, of_carried, to_us}
use Rattle.krb_kdc_exchanges.proofs.tgs_exchange.whole.judge_tgs.Goals as goal

pub returns-in_err-check_request : goal.returns-in_err-check_request
returns-in_err-check_request c =
    let call = call_of c.args.call.now in
    let request = c.args.request.now in
    let exit = err_from_is_err_and c.from_residual.result c.from_residual.ensures.1 in
    rw (exit.1, exit.2)
    (grant_refused {A = Unit {0}} (to_us call.settings.policy call.realm request) (λ _. and_then (carried (padata_in request)) (of_carried call request.req_body.0)) c.in_err-check_request.field-0.0
    (subst (λ policy. IsJudged (to_us policy call.realm request).gives (Err c.in_err-check_request.field-0.0)) c.policy.ensures c.in_err-check_request.ensures))

pub returns-in_err-ap_req : goal.returns-in_err-ap_req
returns-in_err-ap_req c =
    let call = call_of c.args.call.now in
    let request = c.args.request.now in
    let refusal = c.in_err-ap_req.field-0.0 in
    let exit = err_from_is_err_and c.from_residual-in_err-ap_req.result c.from_residual-in_err-ap_req.ensures.1 in
    rw (exit.1, exit.2)
    (grant_passed {A = Unit {0}} (to_us call.settings.policy call.realm request) (λ _. and_then (carried (padata_in request)) (of_carried call request.req_body.0)) tt (Err refusal)
    (subst (λ policy. (to_us policy call.realm request).gives (Ok tt)) c.policy.ensures c.in_ok-check_request.ensures)
    (grant_refused (carried (padata_in request)) (of_carried call request.req_body.0) refusal
    (subst (λ padata. IsJudged (carried padata).gives (Err refusal)) c.padata_in.ensures c.in_err-ap_req.ensures)))

pub returns : goal.returns
returns c =
    let call = call_of c.args.call.now in
    let request = c.args.request.now in
    grant_passed {A = Unit {0}} (to_us call.settings.policy call.realm request) (λ _. and_then (carried (padata_in request)) (of_carried call request.req_body.0)) tt c.judge_carried-judged.result
    (subst (λ policy. (to_us policy call.realm request).gives (Ok tt)) c.policy.ensures c.in_ok-check_request.ensures)
    (grant_passed (carried (padata_in request)) (of_carried call request.req_body.0) c.in_ok-ap_req.ap_req c.judge_carried-judged.result
    (subst (λ padata. (carried padata).gives (Ok c.in_ok-ap_req.ap_req)) c.padata_in.ensures c.in_ok-ap_req.ensures) c.judge_carried-judged.ensures)
