use Rattle.std.proofs.Common.{None}
use Rattle.krb_kdc_exchanges.specs.Call.{call_of}
use Rattle.krb_kdc_exchanges.specs.TgsTable.{tgs_table}
use Rattle.krb_kdc_exchanges.proofs.Answered.{answers_with, outcomes_with}
use Rattle.krb_kdc_exchanges.proofs.answer.tgs_reply.Goals as goal

pub returns-clause-reply : goal.returns-clause-reply
returns-clause-reply c =
    let call = call_of c.args.call.now in
    let request = c.args.request.now in
    answers_with call (λ code. None) request (tgs_table call request) c.judged_reply.result c.in_ok-judged.judged c.in_ok-judged.ensures c.judged_reply.ensures.reply

pub returns-clause-outcome : goal.returns-clause-outcome
returns-clause-outcome c =
    let call = call_of c.args.call.now in
    let request = c.args.request.now in
    outcomes_with call (λ code. None) request (tgs_table call request) c.judged_reply.result c.in_ok-judged.judged c.in_ok-judged.ensures c.judged_reply.ensures.reply
    c.judged_reply.ensures.outcome
