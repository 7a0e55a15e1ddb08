use Rattle.krb_client_exchanges.proofs.Strengths.{least}
use Rattle.krb_client_exchanges.proofs.AnswerStrengths.{listed_in_answer}
use Rattle.krb_client_exchanges.proofs.laws.no_answer_weakens.Goals as goal

pub returns-clause-listed : goal.returns-clause-listed
returns-clause-listed c = listed_in_answer

pub returns-clause-strong : goal.returns-clause-strong
returns-clause-strong c = λ suites bytes answer given. least suites answer.hint.suite (listed_in_answer suites bytes answer given)
