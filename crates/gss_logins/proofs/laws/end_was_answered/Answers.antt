use Rattle.gss_logins.proofs.AnsweredEnds.{end_answered}
use Rattle.gss_logins.proofs.laws.end_was_answered.Goals as goal

pub returns : goal.returns
returns g c = end_answered (g.P.Pkinit.rows c.args.pkinit.now)
