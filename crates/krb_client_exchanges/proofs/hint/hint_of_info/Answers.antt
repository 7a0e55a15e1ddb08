use Rattle.std.proofs.Common.{Err, refl}
use Rattle.decision_tables.specs.Tables.{done}
use Rattle.krb_client_exchanges.specs.Messages.{IsEtypeInfo2, sole_etype_info2}
use Rattle.krb_client_exchanges.specs.Hints.{hint_of_entries, hint_of_info}
use Rattle.krb_client_exchanges.specs.declared.refusal.HintRefusal.TheVariants.{NoHint}
use Rattle.krb_client_exchanges.proofs.Outcomes.{found, not_found}
use Rattle.krb_client_exchanges.proofs.hint.hint_of_info.Goals as goal

pub returns : goal.returns
unfolding hint_of_info
returns c =
    let is = rw c.in-Some.is at c.in_ok-entries.ensures in
    found (IsEtypeInfo2 c.args.info.now) (sole_etype_info2 c.args.info.now) (done (Err NoHint)) (hint_of_entries c.args.suites.now) c.hint_of_entries-hint.result c.in-Some.entries is (rw c.as_slice.ensures at c.hint_of_entries-hint.ensures)

pub returns-in_default : goal.returns-in_default
unfolding hint_of_info
returns-in_default c =
    let none = rw c.in_default.is at c.in_ok-entries.ensures in
    not_found (IsEtypeInfo2 c.args.info.now) (sole_etype_info2 c.args.info.now) (done (Err NoHint)) (hint_of_entries c.args.suites.now) (Err NoHint) none refl
