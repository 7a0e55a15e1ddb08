use Rattle.krb_logins.proofs.FurtherGranted.{further_granted}
use Rattle.krb_logins.proofs.laws.further_granted.Goals as goal

pub returns : goal.returns
returns g c = λ client realm. further_granted client (g.M.Means.means c.args.means.now) realm (g.P.Pkinit.rows c.args.pkinit.now)
