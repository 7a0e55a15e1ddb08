use Rattle.std.proofs.Common.{subst}
use Rattle.krb_client.specs.AsReply.{takes_as_reply}
use Rattle.krb_client.specs.Refusals.{IsTaken}
use Rattle.krb_realm.proofs.ClientMeans.{same_means}
use Rattle.krb_realm.proofs.client.Client.take_as_reply.Goals as goal

pub returns : goal.returns
returns g c =
    rw c.asking.ensures at (subst (λ means. IsTaken (takes_as_reply c.asking.result.now means c.args.asked.now c.args.reply.now) c.take_as_reply.result)
    (same_means g.K.KeyFunctions.functions c.means-means.ensures.by c.means-means.ensures.keys) c.take_as_reply.ensures)
