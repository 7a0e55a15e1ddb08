use Rattle.krb_logins.proofs.ByFirst.{by_first}
use Rattle.krb_logins.proofs.laws.login_is_by_ticket.Goals as goal

pub returns : goal.returns
returns g c = λ client realm service before login granting met exchange.
    by_first client (g.M.Means.means c.args.means.now) realm (g.P.Pkinit.rows c.args.pkinit.now) service before login granting met exchange
