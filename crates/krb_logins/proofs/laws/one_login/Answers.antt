use Rattle.krb_logins.proofs.OneLogin.{one_login}
use Rattle.krb_logins.proofs.laws.one_login.Goals as goal

pub returns : goal.returns
returns g c = one_login (g.M.Means.means c.args.means.now) (g.P.Pkinit.rows c.args.pkinit.now)
