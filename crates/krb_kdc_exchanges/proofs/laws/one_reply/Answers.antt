use Rattle.krb_kdc_exchanges.specs.Replies.{one_reply}
use Rattle.krb_kdc_exchanges.proofs.laws.one_reply.Goals as goal

pub returns : goal.returns
returns g c = λ call. one_reply call (g.P.Pkinit.rows c.args.pkinit.now)
