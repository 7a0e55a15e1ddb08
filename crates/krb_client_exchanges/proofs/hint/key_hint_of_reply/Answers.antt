use Rattle.std.proofs.Common.{Err, refl}
use Rattle.decision_tables.specs.Tables.{done}
use Rattle.krb_messages.specs.Messages.{IsAsRep, sole_as_rep}
use Rattle.krb_client_exchanges.specs.Hints.{hint_of_reply, reply_hint}
use Rattle.krb_client_exchanges.specs.declared.refusal.HintRefusal.TheVariants.{Unreadable}
use Rattle.krb_client_exchanges.proofs.Outcomes.{found, not_found}
use Rattle.krb_client_exchanges.proofs.hint.key_hint_of_reply.Goals as goal

pub returns : goal.returns
unfolding reply_hint
returns c =
    let is = rw c.in-Some.is at c.in_ok-reply.ensures in
    found (IsAsRep c.args.reply.now) (sole_as_rep c.args.reply.now) (done (Err Unreadable)) (hint_of_reply c.args.suites.now) c.hint_of_reply-hint.result c.in-Some.reply is c.hint_of_reply-hint.ensures

pub returns-in_default : goal.returns-in_default
unfolding reply_hint
returns-in_default c =
    let none = rw c.in_default.is at c.in_ok-reply.ensures in
    not_found (IsAsRep c.args.reply.now) (sole_as_rep c.args.reply.now) (done (Err Unreadable)) (hint_of_reply c.args.suites.now) (Err Unreadable) none refl
