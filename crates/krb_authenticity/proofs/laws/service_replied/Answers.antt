use Rattle.krb_authenticity.proofs.Answered.{service_replied}
use Rattle.krb_authenticity.proofs.laws.service_replied.Goals as goal

pub returns : goal.returns
returns g c = service_replied (g.P.Pkinit.rows c.args.pkinit.now)
