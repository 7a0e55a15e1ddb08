use Rattle.krb_authenticity.proofs.ReplyParts.{first_reply_sent}
use Rattle.krb_authenticity.proofs.laws.first_reply_was_sent.Goals as goal

pub returns : goal.returns
returns g c = λ keys exchanges sent client asked message credential. first_reply_sent (g.P.Pkinit.rows c.args.pkinit.now) keys exchanges sent client (g.M.Means.means c.args.means.now) asked message credential
