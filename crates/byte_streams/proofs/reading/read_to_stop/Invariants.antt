use Rattle.std.proofs.Common.{◌≡◌, length}
use Rattle.std.specs.Io.KnownBytes.{Consumes}
use Rattle.byte_streams.proofs.reading.read_to_stop.Given as goal

abbrev pub invariant-loop : goal.invariant-loop
invariant-loop g l = record {
  size : length l.buffer ≡ 256;
  given : Consumes (g.R.Source.left l.initial.reader) (g.R.Source.left l.reader) l.bytes.items;
  count : g.R.Source.failed l.reader ≡ g.R.Source.failed l.initial.reader;
  same : g.R.Source.through l.reader ≡ g.R.Source.through l.initial.reader;
}
