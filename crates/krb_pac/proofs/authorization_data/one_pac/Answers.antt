use Rattle.krb_pac.proofs.OnePac.{found-one}
use Rattle.krb_pac.proofs.authorization_data.one_pac.Goals as goal

pub returns : goal.returns
returns c = found-one
