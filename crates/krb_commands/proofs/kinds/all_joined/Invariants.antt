use Rattle.std.proofs.Common.{◌≡◌, ◌-◌, ◌*◌}
use Rattle.krb_commands.specs.Kinds.{all_joined, are_joined}
use Rattle.krb_commands.proofs.kinds.all_joined.Given as goal

-- the pointers that are left decide
abbrev pub invariant-loop-table : goal.invariant-loop-table
invariant-loop-table l = are_joined (256 - l.table) (l.table * 8) l.end l.front ≡ all_joined l.first l.front
