use Rattle.krb_logins.proofs.EndsWithOneKey.{ends_with_one_key}
use Rattle.krb_logins.proofs.laws.one_key.Goals as goal

pub returns : goal.returns
returns g c = λ client realm service before login result after met run.
    ends_with_one_key client (g.M.Means.means c.args.means.now) realm (g.P.Pkinit.rows c.args.pkinit.now) service before login met result after run
