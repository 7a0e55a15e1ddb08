use Rattle.krb_logins.proofs.Chained.{one_key}
use Rattle.krb_logins.proofs.laws.one_key_over_chain.Goals as goal

pub returns : goal.returns
returns g c = λ client options realm service login exchanges before result after honest run.
    one_key client options (g.M.Means.means c.args.means.now) realm (g.P.Pkinit.rows c.args.pkinit.now) service login exchanges before honest result after run
