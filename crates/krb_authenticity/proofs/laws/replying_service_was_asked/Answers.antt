use Rattle.krb_authenticity.proofs.ReplyingServices.{service_asked}
use Rattle.krb_authenticity.proofs.laws.replying_service_was_asked.Goals as goal

pub returns : goal.returns
returns g c = service_asked (g.P.Pkinit.rows c.args.pkinit.now)
