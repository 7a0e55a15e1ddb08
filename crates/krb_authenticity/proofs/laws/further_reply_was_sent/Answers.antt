use Rattle.krb_authenticity.proofs.ReplyParts.{further_reply_sent}
use Rattle.krb_authenticity.proofs.laws.further_reply_was_sent.Goals as goal

pub returns : goal.returns
returns g c = further_reply_sent (g.P.Pkinit.rows c.args.pkinit.now)
