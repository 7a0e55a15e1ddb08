use Rattle.krb_client_exchanges.specs.AnswerHints.{hint_in_answer}
use Rattle.krb_client_exchanges.proofs.Told.{hinted}
use Rattle.krb_client_exchanges.proofs.answer.answer_of.Goals as goal

pub returns : goal.returns
returns g c = rw c.judged_hint.ensures (hinted _ (hint_in_answer c.args.suites.now c.args.answer.now) c.hint_in_answer.result c.hint_in_answer.ensures)
