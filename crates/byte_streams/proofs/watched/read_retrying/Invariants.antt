use Rattle.std.proofs.Common.{◌≡◌, length}
use Rattle.std.specs.Io.KnownBytes.{Keeps}
use Rattle.byte_streams.proofs.watched.read_retrying.Given as goal

abbrev pub invariant-loop : goal.invariant-loop
invariant-loop g l = record {
  size : length l.buffer ≡ length l.initial.buffer;
  kept : Keeps (g.D.Read.remaining l.initial.device) (g.D.Read.remaining l.device);
}
