use Rattle.krb_logins.proofs.Uses.{each_visit}
use Rattle.krb_logins.proofs.laws.several_services.Goals as goal

pub returns : goal.returns
returns g c = λ client realm login granting visits exchange are met.
    each_visit client (g.M.Means.means c.args.means.now) realm (g.P.Pkinit.rows c.args.pkinit.now) login granting visits exchange are met
