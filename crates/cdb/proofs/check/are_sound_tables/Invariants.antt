use Rattle.std.proofs.Common.{◌≡◌, ◌<◌, ℕ, List, Some}
use Rattle.cdb.specs.Check.{IsSoundTable}
use Rattle.cdb.proofs.check.are_sound_tables.Given as goal

abbrev pub invariant-loop-table : goal.invariant-loop-table
invariant-loop-table g l = (bytes : List ℕ) → g.F.ReadAt.content l.file ≡ Some bytes → (number : ℕ) → number < l.table → IsSoundTable (g.K.Keys.has l.keys) bytes number
