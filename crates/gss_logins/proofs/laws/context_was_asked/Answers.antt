use Rattle.gss_logins.proofs.AskedContexts.{context_asked}
use Rattle.gss_logins.proofs.laws.context_was_asked.Goals as goal

pub returns : goal.returns
returns g c = context_asked (g.P.Pkinit.rows c.args.pkinit.now)
