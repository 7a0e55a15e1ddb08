use Rattle.krb_logins.proofs.FirstTaken.{first_taken}
use Rattle.krb_logins.proofs.laws.first_taken.Goals as goal

pub returns : goal.returns
returns g c = λ client realm. first_taken client (g.M.Means.means c.args.means.now) realm (g.P.Pkinit.rows c.args.pkinit.now)
