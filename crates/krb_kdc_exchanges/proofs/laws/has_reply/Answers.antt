use Rattle.krb_kdc_exchanges.proofs.HasReply.{has_reply}
use Rattle.krb_kdc_exchanges.proofs.laws.has_reply.Goals as goal

pub returns : goal.returns
returns g c = λ call. has_reply call (g.P.Pkinit.rows c.args.pkinit.now)
