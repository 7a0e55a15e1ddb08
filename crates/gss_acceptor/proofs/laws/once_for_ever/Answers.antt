use Rattle.gss_acceptor.proofs.AcceptorRunning.{has_run, once}
use Rattle.gss_acceptor.proofs.laws.once_for_ever.Goals as goal

pub returns-clause-run : goal.returns-clause-run
returns-clause-run c = has_run

pub returns-clause-once : goal.returns-clause-once
returns-clause-once c = once
