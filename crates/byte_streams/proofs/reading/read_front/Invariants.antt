use Rattle.std.proofs.Common.{◌≡◌, ◌-◌, ◌≤◌, length, take}
use Rattle.std.specs.Io.KnownBytes.{Consumes}
use Rattle.byte_streams.proofs.reading.read_front.Given as goal

abbrev pub invariant-loop-at : goal.invariant-loop-at
invariant-loop-at g l = record {
  size : length l.buffer ≡ length l.initial.buffer;
  within : l.at ≤ length l.buffer;
  given : Consumes (g.R.Source.left l.initial.reader) (g.R.Source.left l.reader) (take l.at l.buffer);
  count : g.R.Source.failed l.reader ≡ g.R.Source.failed l.initial.reader;
  same : g.R.Source.through l.reader ≡ g.R.Source.through l.initial.reader;
}

abbrev pub decreases-loop-at : goal.decreases-loop-at
decreases-loop-at g l = length l.initial.buffer - l.at
