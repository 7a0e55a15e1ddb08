use Rattle.krb_messages.proofs.NamesRead.{IsSplit}
use Rattle.krb_messages.proofs.name_reading.split_realm.Given as goal

abbrev pub invariant-loop-index : goal.invariant-loop-index
invariant-loop-index l = IsSplit l.text l.index l.quoted
