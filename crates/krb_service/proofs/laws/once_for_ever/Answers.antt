use Rattle.krb_service.proofs.OnceForEver.{once_for_ever}
use Rattle.krb_service.proofs.laws.once_for_ever.Goals as goal

pub returns : goal.returns
returns c = once_for_ever
