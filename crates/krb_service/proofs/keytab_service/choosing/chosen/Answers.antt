use Rattle.std.proofs.Common.{sym}
use Rattle.krb_service.proofs.ChosenEntries.{chosen_by_kvno, chosen_first, chosen_fitting}
use Rattle.krb_service.proofs.keytab_service.choosing.chosen.Goals as goal

pub returns-in-Some : goal.returns-in-Some
returns-in-Some c = chosen_fitting c.args.entries.now c.args.encrypted.now c.in-Some.entry.now (sym c.in-Some.ensures)

pub returns-in-Some-first_of_kvno : goal.returns-in-Some-first_of_kvno
returns-in-Some-first_of_kvno c =
    chosen_by_kvno c.args.entries.now c.args.encrypted.now c.in-Some-first_of_kvno.entry.now (sym (rw c.in_default.is at c.first_fitting.ensures)) (sym c.in-Some-first_of_kvno.ensures)

pub returns : goal.returns
returns c =
    chosen_first c.args.entries.now c.args.encrypted.now c.index-entries-0.result c.requires (sym (rw c.in_default.is at c.first_fitting.ensures))
    (sym (rw c.in_default-first_of_kvno.is at c.first_of_kvno.ensures)) c.index-entries-0.is
