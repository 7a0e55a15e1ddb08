use Rattle.krb_client.specs.TgsReply.{takes_further, takes_tgs_reply}
use Rattle.krb_messages.specs.Messages.{IsTgsRep, sole_tgs_rep}
use Rattle.krb_client.proofs.TakingReply.{refused_by_error, taken_read, unreadable}
use Rattle.krb_client.proofs.client.Client.take_tgs_reply.Goals as goal

pub returns : goal.returns
unfolding takes_tgs_reply
returns c =
    let none = rw c.in_default.is at c.in_ok-code.ensures in
    let is = rw c.in-Some-2.is at c.in_ok-reply.ensures in
    taken_read c.args.reply.now (IsTgsRep c.args.reply.now) (sole_tgs_rep c.args.reply.now) (takes_further c.args.self.now c.args.asked.now) c.take_further-taken.result c.in-Some-2.reply none is c.take_further-taken.ensures

pub returns-in-Some : goal.returns-in-Some
unfolding takes_tgs_reply
returns-in-Some c =
    let found = rw c.in-Some.is at c.in_ok-code.ensures in
    refused_by_error c.args.reply.now (IsTgsRep c.args.reply.now) (sole_tgs_rep c.args.reply.now) (takes_further c.args.self.now c.args.asked.now) c.in-Some.code found

pub returns-in_default-2 : goal.returns-in_default-2
unfolding takes_tgs_reply
returns-in_default-2 c =
    let none = rw c.in_default.is at c.in_ok-code.ensures in
    let no_reply = rw c.in_default-2.is at c.in_ok-reply.ensures in
    unreadable c.args.reply.now (IsTgsRep c.args.reply.now) (sole_tgs_rep c.args.reply.now) (takes_further c.args.self.now c.args.asked.now) none no_reply
