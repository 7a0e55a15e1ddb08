use Rattle.std.proofs.Common.{◌≡◌, drop, None}
use Rattle.krb_pac.specs.Table.{sole_from}
use Rattle.krb_pac.proofs.table.sole_of.Given as goal

-- the row so far, and what is left
abbrev pub invariant-loop-row : goal.invariant-loop-row
invariant-loop-row l = sole_from l.number l.found (drop l.row-index l.rows) ≡ sole_from l.number None l.rows
