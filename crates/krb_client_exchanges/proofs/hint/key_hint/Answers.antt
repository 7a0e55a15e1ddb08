use Rattle.std.proofs.Common.{Err, refl}
use Rattle.decision_tables.specs.Tables.{done}
use Rattle.krb_messages.specs.Messages.{IsKrbError, sole_krb_error}
use Rattle.krb_client_exchanges.specs.Hints.{error_hint, hint_of_error}
use Rattle.krb_client_exchanges.specs.declared.refusal.HintRefusal.TheVariants.{Unreadable}
use Rattle.krb_client_exchanges.proofs.Outcomes.{found, not_found}
use Rattle.krb_client_exchanges.proofs.hint.key_hint.Goals as goal

pub returns : goal.returns
unfolding error_hint
returns c =
    let is = rw c.in-Some.is at c.in_ok-error.ensures in
    found (IsKrbError c.args.reply.now) (sole_krb_error c.args.reply.now) (done (Err Unreadable)) (hint_of_error c.args.suites.now) c.hint_of_error-hint.result c.in-Some.error is c.hint_of_error-hint.ensures

pub returns-in_default : goal.returns-in_default
unfolding error_hint
returns-in_default c =
    let none = rw c.in_default.is at c.in_ok-error.ensures in
    not_found (IsKrbError c.args.reply.now) (sole_krb_error c.args.reply.now) (done (Err Unreadable)) (hint_of_error c.args.suites.now) (Err Unreadable) none refl
