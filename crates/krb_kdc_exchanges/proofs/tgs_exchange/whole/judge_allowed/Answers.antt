use Rattle.std.proofs.lemmas.Result.{err_from_is_err_and}
use Rattle.krb_kdc_exchanges.specs.Allowed.{further_allowed}
use Rattle.krb_kdc_exchanges.specs.Call.{call_of}
use Rattle.krb_kdc_exchanges.specs.TgsTable.{further}
use Rattle.krb_kdc_exchanges.proofs.Parts.{grant_passed, grant_refused}
use Rattle.krb_kdc_exchanges.proofs.tgs_exchange.whole.judge_allowed.Goals as goal

pub returns-in_err-check_further_allowed : goal.returns-in_err-check_further_allowed
returns-in_err-check_further_allowed c =
    let call = call_of c.args.call.now in
    let part = c.args.opened.now.part.now in
    let authenticated = c.args.opened.now.authenticated.now in
    let exit = err_from_is_err_and c.from_residual.result c.from_residual.ensures.1 in
    rw (exit.1, exit.2)
    (grant_refused {A = Unit {0}} (further_allowed call.moment c.args.client.now c.args.service.now) (λ _. further call part authenticated c.args.service_name.now c.args.service.now c.args.body.now)
    c.in_err-check_further_allowed.field-0.0 c.in_err-check_further_allowed.ensures)

pub returns : goal.returns
returns c =
    let call = call_of c.args.call.now in
    let part = c.args.opened.now.part.now in
    let authenticated = c.args.opened.now.authenticated.now in
    grant_passed {A = Unit {0}} (further_allowed call.moment c.args.client.now c.args.service.now) (λ _. further call part authenticated c.args.service_name.now c.args.service.now c.args.body.now) tt
    c.grant.result c.in_ok-check_further_allowed.ensures c.grant.ensures
