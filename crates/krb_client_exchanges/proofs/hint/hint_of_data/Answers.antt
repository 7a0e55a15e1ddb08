use Rattle.std.proofs.Common.{Err, refl}
use Rattle.decision_tables.specs.Tables.{done}
use Rattle.krb_client_exchanges.specs.Messages.{IsMethodData, sole_method_data}
use Rattle.krb_client_exchanges.specs.Hints.{hint_of_data, hint_of_methods}
use Rattle.krb_client_exchanges.specs.declared.refusal.HintRefusal.TheVariants.{NoHint}
use Rattle.krb_client_exchanges.proofs.Outcomes.{found, not_found}
use Rattle.krb_client_exchanges.proofs.hint.hint_of_data.Goals as goal

pub returns : goal.returns
unfolding hint_of_data
returns c =
    let is = rw c.in-Some.is at c.in_ok-methods.ensures in
    found (IsMethodData c.args.octets.now) (sole_method_data c.args.octets.now) (done (Err NoHint)) (hint_of_methods c.args.suites.now) c.hint_of_methods-hint.result c.in-Some.methods is (rw c.as_slice.ensures at c.hint_of_methods-hint.ensures)

pub returns-in_default : goal.returns-in_default
unfolding hint_of_data
returns-in_default c =
    let none = rw c.in_default.is at c.in_ok-methods.ensures in
    not_found (IsMethodData c.args.octets.now) (sole_method_data c.args.octets.now) (done (Err NoHint)) (hint_of_methods c.args.suites.now) (Err NoHint) none refl
