use Rattle.krb_authenticity.proofs.Runs.{each_asked, each_authentic}
use Rattle.krb_authenticity.proofs.laws.each_was_authenticated.Goals as goal

pub returns-clause-clients : goal.returns-clause-clients
returns-clause-clients g c = each_authentic (g.P.Pkinit.rows c.args.pkinit.now)

pub returns-clause-requests : goal.returns-clause-requests
returns-clause-requests g c = each_asked (g.P.Pkinit.rows c.args.pkinit.now)
