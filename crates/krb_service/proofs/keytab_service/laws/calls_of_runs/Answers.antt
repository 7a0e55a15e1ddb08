use Rattle.krb_service.proofs.KeytabLaws.{call_of_each, call_of_some}
use Rattle.krb_service.proofs.keytab_service.laws.calls_of_runs.Goals as goal

pub returns-clause-some : goal.returns-clause-some
returns-clause-some c = call_of_some

pub returns-clause-each : goal.returns-clause-each
returns-clause-each c = call_of_each
