use Rattle.std.proofs.Common.{◌≡◌, ◌+◌, ◌≤◌, drop}
use Rattle.cdb.specs.Filling.{own_count}
use Rattle.cdb.proofs.filling.count_own.Given as goal

abbrev pub invariant-loop-slot : goal.invariant-loop-slot
invariant-loop-slot l = record {
  counted : l.own + own_count l.number (drop l.slot-index l.slots) ≡ own_count l.number l.slots;
  within : l.own ≤ l.slot-index;
}
