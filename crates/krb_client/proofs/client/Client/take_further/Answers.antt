use Rattle.std.proofs.Common.{sym, ◌∙◌}
use Rattle.krb_client.specs.Taking.{IsTgsPart, sole_tgs_part, takes_part}
use Rattle.krb_client.proofs.TakingReply.{of_type_opened, of_type_unopened}
use Rattle.krb_client.proofs.client.Client.take_further.Goals as goal

pub returns : goal.returns
returns c =
    let found = rw c.in-Some.is at c.in_ok-part.ensures in
    let opened = rw c.key.ensures at found in
    let taken = rw (c.service.ensures, c.nonce.ensures) at c.take_part-taken.ensures in
    of_type_opened 13 c.args.reply.now.pvno.0 c.args.reply.now.msg_type.0
    (IsTgsPart c.args.asked.now.suite c.args.asked.now.key 8 c.args.reply.now.enc_part.0) (sole_tgs_part c.args.asked.now.suite c.args.asked.now.key 8 c.args.reply.now.enc_part.0)
    (takes_part c.args.self.now c.args.asked.now.service c.args.asked.now.nonce c.args.reply.now)
    c.take_part-taken.result c.in-Some.part (sym c.is_of_type.ensures ∙ c.if-not-is_of_type.false) opened taken

pub returns-in_default : goal.returns-in_default
returns-in_default c =
    let found = rw c.in_default.is at c.in_ok-part.ensures in
    let none = rw c.key.ensures at found in
    of_type_unopened 13 c.args.reply.now.pvno.0 c.args.reply.now.msg_type.0
    (IsTgsPart c.args.asked.now.suite c.args.asked.now.key 8 c.args.reply.now.enc_part.0) (sole_tgs_part c.args.asked.now.suite c.args.asked.now.key 8 c.args.reply.now.enc_part.0)
    (takes_part c.args.self.now c.args.asked.now.service c.args.asked.now.nonce c.args.reply.now) (sym c.is_of_type.ensures ∙ c.if-not-is_of_type.false) none
