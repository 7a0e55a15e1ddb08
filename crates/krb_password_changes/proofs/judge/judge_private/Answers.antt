use Rattle.std.proofs.lemmas.Result.{err_from_is_err_and}
use Rattle.krb_password_changes.proofs.Settled.{private_judged, private_refused}
use Rattle.krb_password_changes.proofs.judge.judge_private.Goals as goal

pub returns-in_err-message : goal.returns-in_err-message
returns-in_err-message c =
    let exit = err_from_is_err_and c.from_residual.result c.from_residual.ensures.1 in
    rw (exit.1, exit.2)
    (private_refused c.args.rules.now c.args.version c.args.admission.now c.args.octets.now c.in_err-message.field-0.0 c.in_err-message.ensures)

pub returns : goal.returns
returns c =
    private_judged c.args.rules.now c.args.version c.args.admission.now c.args.octets.now c.in_ok-message.message c.check_private-judged.result
    c.in_ok-message.ensures c.check_private-judged.ensures
