use Rattle.std.proofs.lemmas.Result.{err_from_is_err_and}
use Rattle.krb_password_changes.specs.ChangeTable.{headed, krb_priv_in}
use Rattle.krb_password_changes.proofs.Judged.{then_kept, then_refused}
use Rattle.decision_tables.specs.Tables.{and_then, done}
use Rattle.std.proofs.Common.{Ok}
use Rattle.krb_password_changes.proofs.private.read_krb_priv.Goals as goal

pub returns-in_err-message : goal.returns-in_err-message
returns-in_err-message c =
    let exit = err_from_is_err_and c.from_residual.result c.from_residual.ensures.1 in
    rw (exit.1, exit.2)
    (then_refused (krb_priv_in c.args.octets.now) (λ message. and_then (headed message) (λ _. done (Ok message))) c.in_err-message.field-0.0 c.in_err-message.ensures)

pub returns : goal.returns
returns c =
    then_kept (krb_priv_in c.args.octets.now) headed c.in_ok-message.message c.check_headers-judged.result c.if_passed.result
    c.in_ok-message.ensures c.check_headers-judged.ensures c.if_passed.ensures.passed c.if_passed.ensures.refused
