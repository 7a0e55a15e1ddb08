use Rattle.krb_logins.proofs.Admitting.{no_room, not_shown, was_shown}
use Rattle.krb_logins.proofs.presenting.show.Goals as goal

pub returns-in-Err : goal.returns-in-Err
returns-in-Err c =
    not_shown c.args.asked.now c.args.admission.now c.reply_of.result.now c.reply_of.ensures c.in-Err.refusal c.in-Err.ensures

pub returns-in_default-session_key : goal.returns-in_default-session_key
returns-in_default-session_key c = no_room c.args.asked.now c.args.admission.now

pub returns : goal.returns
returns c =
    was_shown c.args.asked.now c.args.admission.now c.reply_of.result.now c.reply_of.ensures c.in-Ok.key (rw c.in_default.is at c.take_ap_reply.ensures) c.in-Ok.ensures
