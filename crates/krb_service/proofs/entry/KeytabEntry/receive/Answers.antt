use Rattle.std.proofs.lemmas.Result.{err_from_is_err_and}
use Rattle.krb_ap_requests.proofs.Judged.{received, received_none, received_refused, received_wanting}
use Rattle.krb_service.proofs.SessionKeys.{received_keyed}
use Rattle.krb_service.proofs.entry.KeytabEntry.receive.Goals as goal

pub returns-in_err-request-clause-received : goal.returns-in_err-request-clause-received
returns-in_err-request-clause-received c =
    let exit = err_from_is_err_and c.from_residual.result c.from_residual.ensures.1 in rw (exit.1, exit.2) (received_wanting _ _ _ _)

pub returns-in_default-clause-received : goal.returns-in_default-clause-received
returns-in_default-clause-received c = received_none _ _ _ _ (rw c.in_default.is at c.in_ok-request.ensures)

pub returns-in_err-judged-clause-received : goal.returns-in_err-judged-clause-received
returns-in_err-judged-clause-received c =
    let exit = err_from_is_err_and c.from_residual-in_err-judged.result c.from_residual-in_err-judged.ensures.1 in
    rw (exit.1, exit.2)
    (received_refused c.args.self.now c.args.skew c.args.moment c.args.message.now c.in-Some.request c.in_err-judged.field-0.0 (rw c.in-Some.is at c.in_ok-request.ensures) c.in_err-judged.ensures)

pub returns-clause-received : goal.returns-clause-received
returns-clause-received c =
    received c.args.self.now c.args.skew c.args.moment c.args.message.now c.in-Some.request c.in_ok-judged.field-0 (rw c.in-Some.is at c.in_ok-request.ensures) c.in_ok-judged.ensures

pub returns-clause-keyed : goal.returns-clause-keyed
returns-clause-keyed c =
    received_keyed c.args.self.now c.args.skew c.args.moment c.args.message.now c.in_ok-judged.field-0
    (received c.args.self.now c.args.skew c.args.moment c.args.message.now c.in-Some.request c.in_ok-judged.field-0 (rw c.in-Some.is at c.in_ok-request.ensures) c.in_ok-judged.ensures)
