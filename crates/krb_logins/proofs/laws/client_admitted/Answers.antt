use Rattle.krb_logins.proofs.Admitted.{client_admitted}
use Rattle.krb_logins.proofs.laws.client_admitted.Goals as goal

pub returns : goal.returns
returns g c = λ client realm. client_admitted client (g.M.Means.means c.args.means.now) realm (g.P.Pkinit.rows c.args.pkinit.now)
