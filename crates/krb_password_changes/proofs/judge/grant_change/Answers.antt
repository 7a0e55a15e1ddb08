use Rattle.std.proofs.lemmas.Result.{err_from_is_err_and}
use Rattle.krb_password_changes.proofs.Settled.{change_granted, password_refused, target_refused}
use Rattle.krb_password_changes.proofs.judge.grant_change.Goals as goal

pub returns-in_err-own : goal.returns-in_err-own
returns-in_err-own c =
    let exit = err_from_is_err_and c.from_residual.result c.from_residual.ensures.1 in
    rw (exit.1, exit.2)
    (target_refused c.args.rules.now c.args.admission.now c.args.change.now c.in_err-own.field-0.0 c.in_err-own.ensures)

pub returns-in_err-check_password : goal.returns-in_err-check_password
returns-in_err-check_password c =
    let exit = err_from_is_err_and c.from_residual-in_err-check_password.result c.from_residual-in_err-check_password.ensures.1 in
    rw (exit.1, exit.2)
    (password_refused c.args.rules.now c.args.admission.now c.args.change.now c.in_ok-own.own c.in_err-check_password.field-0.0 c.in_ok-own.ensures c.in_err-check_password.ensures)

pub returns : goal.returns
returns c =
    change_granted c.args.rules.now c.args.admission.now c.args.change.now c.in_ok-own.own c.in_ok-granted.granted _
    c.in_ok-own.ensures c.in_ok-check_password.ensures c.in_ok-granted.ensures
