use Rattle.std.proofs.Common.{◌+◌, drop}
use Rattle.krb_account_texts.proofs.Rows.{IsPut}
use Rattle.krb_account_texts.proofs.patterns.put_mark.Given as goal

abbrev pub invariant-loop-index : goal.invariant-loop-index
invariant-loop-index l = IsPut l.mark (drop (l.place + 1) l.marks) l.name l.row.items l.index l.behind
