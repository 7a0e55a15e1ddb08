use Rattle.krb_service.specs.KeytabService.{remembering_by_keytab}
use Rattle.krb_service.proofs.keytab_service.laws.one_outcome.Goals as goal

pub returns : goal.returns
returns c = λ service moment admitted bytes words. (remembering_by_keytab service moment admitted bytes words).one
