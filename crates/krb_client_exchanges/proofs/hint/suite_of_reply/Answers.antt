use Rattle.std.proofs.Common.{Err, refl}
use Rattle.decision_tables.specs.Tables.{done}
use Rattle.krb_messages.specs.Messages.{IsAsRep, sole_as_rep}
use Rattle.krb_client_exchanges.specs.Hints.{reply_suite, suite_in_reply}
use Rattle.krb_client_exchanges.specs.declared.refusal.HintRefusal.TheVariants.{Unreadable}
use Rattle.krb_client_exchanges.proofs.Outcomes.{found, given, not_found}
use Rattle.krb_client_exchanges.proofs.hint.suite_of_reply.Goals as goal

pub returns : goal.returns
unfolding reply_suite
returns c =
    let is = rw c.in-Some.is at c.in_ok-reply.ensures in
    found (IsAsRep c.args.reply.now) (sole_as_rep c.args.reply.now) (done (Err Unreadable)) (λ reply. done (suite_in_reply c.args.suites.now reply)) c.suite_in_reply-suite.result c.in-Some.reply is
    (given c.suite_in_reply-suite.result (suite_in_reply c.args.suites.now c.in-Some.reply) c.suite_in_reply-suite.ensures)

pub returns-in_default : goal.returns-in_default
unfolding reply_suite
returns-in_default c =
    let none = rw c.in_default.is at c.in_ok-reply.ensures in
    not_found (IsAsRep c.args.reply.now) (sole_as_rep c.args.reply.now) (done (Err Unreadable)) (λ reply. done (suite_in_reply c.args.suites.now reply)) (Err Unreadable) none refl
