use Rattle.std.proofs.Common.{Err, inr, refl}
use Rattle.decision_tables.specs.Tables.{done}
use Rattle.krb_messages.specs.Messages.{IsApRep, sole_ap_rep}
use Rattle.gss_initiator.proofs.Outcomes.{found, not_found}
use Rattle.gss_initiator.specs.Replies.{opened}
use Rattle.gss_initiator.specs.declared.refusal.InitiateRefusal.TheVariants.{NotAToken}
use Rattle.gss_initiator.proofs.reply.replied.Goals as goal

pub returns : goal.returns
returns c =
    let message = c.args.message.now in
    let is = rw c.in-Some.is at c.in_ok-reply.ensures in
    found (IsApRep message) (sole_ap_rep message) (done (Err NotAToken)) (opened c.args.asked.now) c.opened-part.result c.in-Some.reply is c.opened-part.ensures

pub returns-in_default : goal.returns-in_default
returns-in_default c =
    let message = c.args.message.now in
    let none = rw c.in_default.is at c.in_ok-reply.ensures in
    not_found (IsApRep message) (sole_ap_rep message) (done (Err NotAToken)) (opened c.args.asked.now) (Err NotAToken) none (inr refl)
