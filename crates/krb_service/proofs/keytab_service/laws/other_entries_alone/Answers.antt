use Rattle.krb_service.proofs.KeytabLaws.{earlier_alone, unfit_alone}
use Rattle.krb_service.proofs.keytab_service.laws.other_entries_alone.Goals as goal

pub returns-clause-earlier : goal.returns-clause-earlier
returns-clause-earlier c = earlier_alone

pub returns-clause-unfit : goal.returns-clause-unfit
returns-clause-unfit c = unfit_alone
