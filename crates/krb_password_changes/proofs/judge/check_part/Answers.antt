use Rattle.std.proofs.lemmas.Result.{err_from_is_err_and}
use Rattle.krb_password_changes.specs.ChangeTable.{asked_change, granted_change}
use Rattle.krb_password_changes.proofs.Judged.{then_judged, then_refused}
use Rattle.krb_password_changes.proofs.judge.check_part.Goals as goal

pub returns-in_err-change : goal.returns-in_err-change
returns-in_err-change c =
    let exit = err_from_is_err_and c.from_residual.result c.from_residual.ensures.1 in
    rw (exit.1, exit.2)
    (then_refused (asked_change c.args.version c.args.part.now) (λ change. granted_change c.args.rules.now c.args.admission.now change) c.in_err-change.field-0.0 c.in_err-change.ensures)

pub returns : goal.returns
returns c =
    then_judged (asked_change c.args.version c.args.part.now) (λ change. granted_change c.args.rules.now c.args.admission.now change)
    c.in_ok-change.change c.grant_change-judged.result c.in_ok-change.ensures c.grant_change-judged.ensures
