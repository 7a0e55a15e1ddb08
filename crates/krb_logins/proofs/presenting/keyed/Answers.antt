use Rattle.krb_logins.proofs.Admitting.{key_told, no_key}
use Rattle.krb_logins.proofs.StepEnds.{exit_of}
use Rattle.krb_logins.proofs.presenting.keyed.Goals as goal

pub returns-in_err-key : goal.returns-in_err-key
returns-in_err-key c =
    no_key c.args.asked.now c.args.admission c.from_residual.result c.in_err-key.field-0.0 c.in_err-key.ensures
    (exit_of c.from_residual.result c.in_err-key.field-0.0 c.from_residual.ensures.1)

pub returns : goal.returns
returns c = key_told c.args.asked.now c.args.admission c.in_ok-key.key c.in_ok-key.ensures
