use Rattle.std.proofs.lemmas.Result.{err_from_is_err_and}
use Rattle.krb_ap_requests.proofs.Judged.{part_unopened, times_judged}
use Rattle.krb_ap_requests.proofs.judge.check_ticket.Goals as goal

pub returns-in_err-part : goal.returns-in_err-part
returns-in_err-part c =
    let exit = err_from_is_err_and c.from_residual.result c.from_residual.ensures.1 in
    rw (exit.1, exit.2) (part_unopened c.args.key.now.suite c.args.key.now.bytes c.args.skew c.args.moment c.args.encrypted.now c.in_err-part.field-0.0 c.in_err-part.ensures)

pub returns : goal.returns
returns c =
    times_judged c.args.key.now.suite c.args.key.now.bytes c.args.skew c.args.moment c.args.encrypted.now c.in_ok-part.part c.check_times-judged.result c.if_passed.result
    c.in_ok-part.ensures c.check_times-judged.ensures c.if_passed.ensures.passed c.if_passed.ensures.refused
