use Rattle.std.proofs.Common.{drop}
use Rattle.krb_account_texts.specs.Patterns.{IsRow}
use Rattle.krb_account_texts.proofs.patterns.Pattern.matches.Given as goal

-- what the pattern from this place on matches
abbrev pub invariant-loop-place : goal.invariant-loop-place
invariant-loop-place l = IsRow (drop l.place l.marks) l.name l.row.items
