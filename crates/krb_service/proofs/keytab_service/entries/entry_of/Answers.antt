use Rattle.std.proofs.Common.{Some, ap, sym, ◌∙◌}
use Rattle.krb_service.proofs.RecordEntries.{not_counted, with_key, without_key}
use Rattle.krb_service.proofs.keytab_service.entries.entry_of.Goals as goal

pub returns-then-not-is_counted : goal.returns-then-not-is_counted
returns-then-not-is_counted c = not_counted c.args.realm.now c.args.name.now c.args.key_record.now (sym c.if-not-is_counted.ensures)

pub returns-in_default : goal.returns-in_default
returns-in_default c = without_key c.args.realm.now c.args.name.now c.args.key_record.now (rw c.in_default.is at c.key_of.ensures)

pub returns : goal.returns
returns c =
    ap Some (rw c.kvno.ensures at c.in_ok-entry.ensures)
    ∙ with_key c.args.realm.now c.args.name.now c.args.key_record.now c.in-Some.key (sym c.if-not-is_counted.ensures) c.in-Some.ensures
