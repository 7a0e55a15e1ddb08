use Rattle.std.proofs.Common.{◌-◌, ◌≤◌, length}
use Rattle.cdb.proofs.Searching.{NoneBelow, NoneFrom}
use Rattle.cdb.proofs.records.is_among.Given as goal

abbrev pub invariant-loop-low : goal.invariant-loop-low
invariant-loop-low l = record {
  within : l.high ≤ length l.records;
  below : NoneBelow l.records l.key l.low;
  above : NoneFrom l.records l.key l.high;
}

abbrev pub decreases-loop-low : goal.decreases-loop-low
decreases-loop-low l = l.high - l.low
