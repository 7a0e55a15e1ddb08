use Rattle.krb_service.proofs.Running.{of_one_key, run_goes_on}
use Rattle.krb_service.proofs.laws.run_goes_on.Goals as goal

pub returns-clause-more : goal.returns-clause-more
returns-clause-more c = run_goes_on

pub returns-clause-one_key : goal.returns-clause-one_key
returns-clause-one_key c = of_one_key
