use Rattle.krb_logins.specs.Input.{login_of}
use Rattle.krb_realm.specs.Logins.{realm_record, realm_rows}
use Rattle.krb_realm.proofs.Exchanges.{tgs_replied, tgs_unanswered, tgs_unasked}
use Rattle.krb_logins.proofs.StepEnds.{exit_of}
use Rattle.krb_realm.proofs.login.tgs_exchange.Goals as goal

pub returns-in_err-request : goal.returns-in_err-request
returns-in_err-request g c =
    tgs_unasked c.args.client.now (realm_record c.args.realm.now) (realm_rows c.args.realm.now (g.R.KeyFunctions.functions c.args.keys.now)) (login_of c.args.input.now) c.from_residual.result c.args.granting.now c.in_err-request.field-0.0 c.in_err-request.ensures
    (exit_of c.from_residual.result c.in_err-request.field-0.0 c.from_residual.ensures.1)

pub returns-in_err-reply : goal.returns-in_err-reply
returns-in_err-reply g c =
    tgs_unanswered c.args.client.now (realm_record c.args.realm.now) (realm_rows c.args.realm.now (g.R.KeyFunctions.functions c.args.keys.now)) (login_of c.args.input.now) c.from_residual-in_err-reply.result c.args.granting.now
    c.in_ok-request.request c.in_ok-request.asked c.deref.result.now c.in_ok-request.ensures c.deref.ensures.value
    c.in_err-reply.field-0.0 c.in_err-reply.ensures
    (exit_of c.from_residual-in_err-reply.result c.in_err-reply.field-0.0 c.from_residual-in_err-reply.ensures.1)

pub returns : goal.returns
returns g c =
    tgs_replied c.args.client.now (realm_record c.args.realm.now) (realm_rows c.args.realm.now (g.R.KeyFunctions.functions c.args.keys.now)) (login_of c.args.input.now) c.take_tgs.result c.args.granting.now
    c.in_ok-request.request c.in_ok-request.asked c.deref.result.now c.in_ok-request.ensures c.deref.ensures.value
    c.in_ok-reply.reply c.deref-2.result.now c.in_ok-reply.ensures c.deref-2.ensures.value c.take_tgs.ensures
