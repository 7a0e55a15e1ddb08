use Rattle.std.proofs.lemmas.Result.{err_from_is_err_and}
use Rattle.krb_password_changes.proofs.Settled.{opened_first, unopened}
use Rattle.krb_password_changes.proofs.private.open_private.Goals as goal

pub returns-in_err-part : goal.returns-in_err-part
returns-in_err-part c =
    let exit = err_from_is_err_and c.from_residual.result c.from_residual.ensures.1 in
    rw (exit.1, exit.2) (unopened c.args.admission.now c.args.message.now c.private_key.result.now c.in_err-part.field-0.0 c.private_key.ensures c.in_err-part.ensures)

pub returns : goal.returns
returns c =
    opened_first c.args.admission.now c.args.message.now c.private_key.result.now c.in_ok-part.part c.check_number-judged.result c.if_passed.result
    c.private_key.ensures c.in_ok-part.ensures c.check_number-judged.ensures c.if_passed.ensures.passed c.if_passed.ensures.refused
