use Rattle.krb_client_exchanges.proofs.Answering.{suited}
use Rattle.krb_client_exchanges.proofs.answer.suite_for.Goals as goal

pub returns : goal.returns
returns c = rw c.suite_or.ensures (suited c.args.own c.args.suites.now c.args.reply.now c.suite_of_reply.result c.suite_of_reply.ensures)
