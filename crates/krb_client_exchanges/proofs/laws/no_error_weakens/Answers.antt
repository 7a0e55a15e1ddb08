use Rattle.krb_client_exchanges.proofs.Strengths.{least, listed}
use Rattle.krb_client_exchanges.proofs.laws.no_error_weakens.Goals as goal

pub returns-clause-listed : goal.returns-clause-listed
returns-clause-listed c = listed

pub returns-clause-strong : goal.returns-clause-strong
returns-clause-strong c = λ suites bytes hint given. least suites hint.suite (listed suites bytes hint given)
