use Rattle.krb_client.specs.AsReply.{takes_as_reply, takes_reply}
use Rattle.krb_messages.specs.Messages.{IsAsRep, sole_as_rep}
use Rattle.krb_client.proofs.TakingReply.{refused_by_error, taken_read, unreadable}
use Rattle.krb_client.proofs.client.Client.take_as_reply.Goals as goal

pub returns : goal.returns
unfolding takes_as_reply
returns g c =
    let none = rw c.in_default.is at c.in_ok-code.ensures in
    let is = rw c.in-Some-2.is at c.in_ok-reply.ensures in
    taken_read c.args.reply.now (IsAsRep c.args.reply.now) (sole_as_rep c.args.reply.now) (takes_reply c.args.self.now (g.M.Means.means c.args.means.now) c.args.asked.now) c.take_reply-taken.result c.in-Some-2.reply none is c.take_reply-taken.ensures

pub returns-in-Some : goal.returns-in-Some
unfolding takes_as_reply
returns-in-Some g c =
    let found = rw c.in-Some.is at c.in_ok-code.ensures in
    refused_by_error c.args.reply.now (IsAsRep c.args.reply.now) (sole_as_rep c.args.reply.now) (takes_reply c.args.self.now (g.M.Means.means c.args.means.now) c.args.asked.now) c.in-Some.code found

pub returns-in_default-2 : goal.returns-in_default-2
unfolding takes_as_reply
returns-in_default-2 g c =
    let none = rw c.in_default.is at c.in_ok-code.ensures in
    let no_reply = rw c.in_default-2.is at c.in_ok-reply.ensures in
    unreadable c.args.reply.now (IsAsRep c.args.reply.now) (sole_as_rep c.args.reply.now) (takes_reply c.args.self.now (g.M.Means.means c.args.means.now) c.args.asked.now) none no_reply
