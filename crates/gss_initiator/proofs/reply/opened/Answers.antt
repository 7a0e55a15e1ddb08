use Rattle.std.proofs.Common.{◌≡◌, Bool, false, not, Err, ap, inr, refl, sym, ◌∙◌}
use Rattle.krb_messages.specs.declared.messages.ap_rep.ApRepInner.{ApRepInner}
use Rattle.decision_tables.specs.Tables.{Table, ask, done}
use Rattle.krb_client.specs.ApReply.{IsApPart, sole_ap_part}
use Rattle.krb_client.specs.Asked.{ApAskedRecord}
use Rattle.krb_client.specs.Taking.{is_of_type}
use Rattle.gss_initiator.proofs.Outcomes.{found, not_found, passed}
use Rattle.gss_initiator.specs.Replies.{Part, told}
use Rattle.gss_initiator.specs.declared.refusal.InitiateRefusal.TheVariants.{NotAToken, NotSealed}
use Rattle.gss_initiator.proofs.reply.opened.Goals as goal

-- the rows behind the first
abbrev rest : ApAskedRecord → ApRepInner → Table Part
rest asked reply = ask (IsApPart asked reply.enc_part.0) (sole_ap_part asked reply.enc_part.0) (done (Err NotSealed)) (told asked)

abbrev other_type : ApRepInner → Bool
other_type reply = not (is_of_type 15 reply.pvno.0 reply.msg_type.0)

pub returns-in-Some : goal.returns-in-Some
returns-in-Some c =
    let reply = c.args.reply.now in
    let asked = c.args.asked.now in
    let is = rw c.in-Some.is at c.in_ok-opened.ensures in
    let typed : other_type reply ≡ false = ap not (sym c.is_of_type.ensures ∙ c.if-not-is_of_type.false) in
    passed (other_type reply) NotAToken (rest asked reply) c.told.result typed
    (found (IsApPart asked reply.enc_part.0) (sole_ap_part asked reply.enc_part.0) (done (Err NotSealed)) (told asked) c.told.result c.in-Some.part is (inr c.told.ensures))

pub returns-in-None : goal.returns-in-None
returns-in-None c =
    let reply = c.args.reply.now in
    let asked = c.args.asked.now in
    let none = rw c.in-None.is at c.in_ok-opened.ensures in
    let typed : other_type reply ≡ false = ap not (sym c.is_of_type.ensures ∙ c.if-not-is_of_type.false) in
    passed (other_type reply) NotAToken (rest asked reply) (Err NotSealed) typed
    (not_found (IsApPart asked reply.enc_part.0) (sole_ap_part asked reply.enc_part.0) (done (Err NotSealed)) (told asked) (Err NotSealed) none (inr refl))
