use Rattle.krb_logins.proofs.ByTicket.{next_held}
use Rattle.krb_logins.proofs.laws.next_held.Goals as goal

pub returns : goal.returns
returns g c = λ client realm exchange granting result one holds honest run.
    next_held client realm (g.P.Pkinit.rows c.args.pkinit.now) exchange granting one holds honest result run
