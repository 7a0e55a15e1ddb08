use Rattle.krb_logins.proofs.ByTicket.{one_key}
use Rattle.krb_logins.proofs.laws.one_key_by_ticket.Goals as goal

pub returns : goal.returns
returns g c = λ client realm service before login granting result after one holds honest run.
    one_key client realm (g.P.Pkinit.rows c.args.pkinit.now) service login granting before one holds honest result after run
