use Rattle.std.specs.Io.KnownBytes.{Keeps}
use Rattle.byte_streams.proofs.watched.write_retrying.Given as goal

abbrev pub invariant-loop : goal.invariant-loop
invariant-loop g l = record {
  kept : Keeps (g.D.Write.contents l.initial.device) (g.D.Write.contents l.device);
}
