use Rattle.std.proofs.Common.{◌≡◌, ◌+◌, ◌*◌, ◌≤◌, length, take, drop}
use Rattle.cdb.specs.Filling.{full_count, IsFilled, own_count}
use Rattle.cdb.proofs.filling.fill.Given as goal

abbrev pub invariant-loop-slot : goal.invariant-loop-slot
invariant-loop-slot l = record {
  filled : IsFilled l.number (take l.slot-index l.slots) l.cells.items;
  size : length l.cells.items ≡ 2 * own_count l.number l.slots;
  room : full_count l.cells.items + own_count l.number (drop l.slot-index l.slots) ≤ own_count l.number l.slots;
}
