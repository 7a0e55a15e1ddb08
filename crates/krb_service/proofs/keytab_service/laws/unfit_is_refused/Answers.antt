use Rattle.krb_service.proofs.KeytabLaws.{unfit_code, unfit_refused}
use Rattle.krb_service.proofs.keytab_service.laws.unfit_is_refused.Goals as goal

pub returns-clause-never : goal.returns-clause-never
returns-clause-never c = unfit_refused

pub returns-clause-code : goal.returns-clause-code
returns-clause-code c = unfit_code
