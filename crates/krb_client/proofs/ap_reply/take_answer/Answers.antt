use Rattle.std.proofs.Common.{sym, ◌∙◌}
use Rattle.krb_client.specs.ApReply.{IsApPart, sole_ap_part, takes_time}
use Rattle.krb_client.proofs.TakingReply.{of_type_opened}
use Rattle.krb_client.proofs.ap_reply.take_answer.Goals as goal

pub returns : goal.returns
returns c =
    let opened = rw c.in-Some.is at c.in_ok-part.ensures in
    of_type_opened 15 c.args.reply.now.pvno.0 c.args.reply.now.msg_type.0 (IsApPart c.args.asked.now c.args.reply.now.enc_part.0) (sole_ap_part c.args.asked.now c.args.reply.now.enc_part.0)
    (takes_time c.args.asked.now) c.take_time-taken.result c.in-Some.part (sym c.is_of_type.ensures ∙ c.if-not-is_of_type.false) opened c.take_time-taken.ensures
