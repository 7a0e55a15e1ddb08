use Rattle.krb_logins.proofs.FurtherTaken.{further_taken}
use Rattle.krb_logins.proofs.laws.further_taken.Goals as goal

pub returns : goal.returns
returns g c = λ client realm. further_taken client (g.M.Means.means c.args.means.now) realm (g.P.Pkinit.rows c.args.pkinit.now)
