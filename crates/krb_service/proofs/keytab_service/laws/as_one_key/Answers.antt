use Rattle.krb_service.proofs.KeytabLaws.{as_one_key}
use Rattle.krb_service.proofs.keytab_service.laws.as_one_key.Goals as goal

pub returns : goal.returns
returns c = as_one_key
