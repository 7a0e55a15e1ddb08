use Rattle.krb_service.proofs.KeytabLaws.{has_outcome}
use Rattle.krb_service.proofs.keytab_service.laws.has_outcome.Goals as goal

pub returns : goal.returns
returns c = has_outcome
