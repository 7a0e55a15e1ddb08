use Rattle.krb_service.proofs.KeytabLaws.{sole_answers, sole_presents}
use Rattle.krb_service.proofs.keytab_service.laws.sole_entry.Goals as goal

pub returns-clause-answers : goal.returns-clause-answers
returns-clause-answers c = sole_answers

pub returns-clause-presents : goal.returns-clause-presents
returns-clause-presents c = sole_presents
