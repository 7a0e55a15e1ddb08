use Rattle.std.proofs.lemmas.Result.{err_from_is_err_and}
use Rattle.krb_password_changes.specs.ChangeTable.{judged_part, opened_private}
use Rattle.krb_password_changes.proofs.Judged.{then_judged, then_refused}
use Rattle.krb_password_changes.proofs.judge.check_private.Goals as goal

pub returns-in_err-part : goal.returns-in_err-part
returns-in_err-part c =
    let exit = err_from_is_err_and c.from_residual.result c.from_residual.ensures.1 in
    rw (exit.1, exit.2)
    (then_refused (opened_private c.args.admission.now c.args.message.now) (λ part. judged_part c.args.rules.now c.args.version c.args.admission.now part) c.in_err-part.field-0.0 c.in_err-part.ensures)

pub returns : goal.returns
returns c =
    then_judged (opened_private c.args.admission.now c.args.message.now) (λ part. judged_part c.args.rules.now c.args.version c.args.admission.now part)
    c.in_ok-part.part c.check_part-judged.result c.in_ok-part.ensures c.check_part-judged.ensures
