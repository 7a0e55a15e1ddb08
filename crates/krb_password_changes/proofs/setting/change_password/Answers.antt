use Rattle.std.proofs.Common.{refl}
use Rattle.std.proofs.lemmas.Result.{err_from_is_err_and}
use Rattle.krb_password_changes.proofs.Settled.{changed, unchanged, unset}
use Rattle.krb_password_changes.proofs.setting.change_password.Goals as goal

pub returns-in_err-granted : goal.returns-in_err-granted
returns-in_err-granted c =
    let exit = err_from_is_err_and c.from_residual.result c.from_residual.ensures.1 in
    rw (exit.1, exit.2)
    (unchanged c.args.rules.now c.args.version c.args.admission.now c.args.krb_priv.now c.args.lines.now.items c.args.lines.now.items
    c.in_err-granted.field-0.0 c.in_err-granted.ensures refl)

pub returns-in-Ok : goal.returns-in-Ok
returns-in-Ok c =
    changed c.args.rules.now c.args.version c.args.admission.now c.args.krb_priv.now c.args.lines.now.items c.set_password.new.lines.items
    c.in_ok-granted.granted c.in_ok-granted.ensures c.in-Ok.ensures.judged (rw c.suite_of_rules-suite.ensures at c.in-Ok.ensures.ok)

pub returns-in-Err : goal.returns-in-Err
returns-in-Err c =
    unset c.args.rules.now c.args.version c.args.admission.now c.args.krb_priv.now c.args.lines.now.items c.set_password.new.lines.items
    c.in_ok-granted.granted c.in-Err.refusal c.in_ok-granted.ensures c.in-Err.ensures.refused c.in-Err.ensures.err
