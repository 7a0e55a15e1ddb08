use Rattle.krb_service.proofs.KeytabLaws.{admitted_as_presented}
use Rattle.krb_service.proofs.keytab_service.laws.admitted_as_presented.Goals as goal

pub returns : goal.returns
returns c = admitted_as_presented
