use Rattle.std.proofs.lemmas.Result.{err_from_is_err_and}
use Rattle.krb_kdc_exchanges.specs.Call.{call_of}
use Rattle.krb_kdc_exchanges.proofs.Parts.{grant_passed, grant_refused}
use Rattle.krb_kdc_exchanges.specs.TgsTable.{of_authenticated, authenticated_near}
use Rattle.krb_kdc_exchanges.proofs.ByTicket.{by_authenticator}
use Rattle.krb_kdc_exchanges.proofs.tgs_exchange.whole.judge_ticket.Goals as goal

pub returns-in_err-authenticated : goal.returns-in_err-authenticated
returns-in_err-authenticated c =
    let call = call_of c.args.call.now in
    let exit = err_from_is_err_and c.from_residual.result c.from_residual.ensures.1 in
    rw (exit.1, exit.2)
    (grant_refused (authenticated_near call c.args.part.now c.args.ap_req.now) (of_authenticated call c.args.body.now c.args.part.now) c.in_err-authenticated.field-0.0 c.in_err-authenticated.ensures)

pub returns : goal.returns
returns c =
    let call = call_of c.args.call.now in
    grant_passed (authenticated_near call c.args.part.now c.args.ap_req.now) (of_authenticated call c.args.body.now c.args.part.now) c.in_ok-authenticated.authenticated c.judge_authenticated-judged.result c.in_ok-authenticated.ensures c.judge_authenticated-judged.ensures

pub judge_authenticated-judged-requires-clause-suite : goal.judge_authenticated-judged-requires-clause-suite
judge_authenticated-judged-requires-clause-suite c =
    (by_authenticator (call_of c.args.call.now) c.args.part.now c.args.ap_req.now c.in_ok-authenticated.authenticated c.in_ok-authenticated.ensures).suite
