use Rattle.krb_logins.proofs.FirstGranted.{first_granted}
use Rattle.krb_logins.proofs.laws.first_granted.Goals as goal

pub returns : goal.returns
returns g c = λ client realm. first_granted client (g.M.Means.means c.args.means.now) realm (g.P.Pkinit.rows c.args.pkinit.now)
