use Rattle.krb_logins.proofs.ByTicket.{first_held}
use Rattle.krb_logins.proofs.laws.first_held.Goals as goal

pub returns : goal.returns
returns g c = λ client options realm login one result honest run.
    first_held client options (g.M.Means.means c.args.means.now) realm (g.P.Pkinit.rows c.args.pkinit.now) login one honest result run
