use Rattle.std.proofs.Common.{◌≡◌, ◌≢◌, ◌+◌, ◌/◌, ◌%◌, ◌<◌, ℕ, length}
use Rattle.cdb.specs.declared.format.TheConstants.{TABLES}
use Rattle.cdb.specs.Database.{slot_after}
use Rattle.cdb.proofs.filling.free_cell.Given as goal

abbrev pub invariant-loop : goal.invariant-loop
invariant-loop l = record {
  place : l.number ≡ (l.hash / TABLES + l.counter) % length l.cells;
  before : (k : ℕ) → k < l.counter → (slot_after l.cells l.hash k).at ≢ 0;
}
