use Rattle.std.proofs.lemmas.Result.{err_from_is_err_and}
use Rattle.krb_service.proofs.ChosenSteps.{keyed_by, none_by, received_by, refused_by, wanting_by}
use Rattle.krb_service.proofs.keytab_service.choosing.receive.Goals as goal

pub returns-in_err-request-clause-received : goal.returns-in_err-request-clause-received
returns-in_err-request-clause-received c =
    let exit = err_from_is_err_and c.from_residual.result c.from_residual.ensures.1 in rw (exit.1, exit.2) (wanting_by _ _ _ _)

pub returns-in_default-clause-received : goal.returns-in_default-clause-received
returns-in_default-clause-received c = none_by _ _ _ _ (rw c.in_default.is at c.in_ok-request.ensures)

pub returns-in_err-judged-clause-received : goal.returns-in_err-judged-clause-received
returns-in_err-judged-clause-received c =
    let exit = err_from_is_err_and c.from_residual-in_err-judged.result c.from_residual-in_err-judged.ensures.1 in
    rw (exit.1, exit.2)
    (refused_by c.args.entries.now c.args.skew c.args.moment c.args.message.now c.in-Some.request c.in_err-judged.field-0.0 (rw c.in-Some.is at c.in_ok-request.ensures) c.in_err-judged.ensures)

pub returns-clause-received : goal.returns-clause-received
returns-clause-received c =
    received_by c.args.entries.now c.args.skew c.args.moment c.args.message.now c.in-Some.request c.in_ok-judged.field-0 (rw c.in-Some.is at c.in_ok-request.ensures) c.in_ok-judged.ensures

pub returns-clause-keyed : goal.returns-clause-keyed
returns-clause-keyed c =
    keyed_by c.args.entries.now c.args.skew c.args.moment c.args.message.now c.in-Some.request c.in_ok-judged.field-0 (rw c.in-Some.is at c.in_ok-request.ensures) c.in_ok-judged.ensures
