use Rattle.std.proofs.Common.{◌≡◌, ◌-◌, ◌≤◌, ◌<◌, IsTrue, length, take}
use Rattle.std.specs.Io.KnownBytes.{Appends}
use Rattle.byte_streams.specs.Room.{TakenRoom}
use Rattle.byte_streams.proofs.exact.write_whole.Given as goal

abbrev pub invariant-loop-at : goal.invariant-loop-at
invariant-loop-at g l = record {
  within : l.at ≤ length l.bytes;
  taken : Appends (g.W.Sink.written l.initial.writer) (g.W.Sink.written l.writer) (take l.at l.bytes);
  count : g.W.Sink.failed l.writer ≡ g.W.Sink.failed l.initial.writer;
  same : g.W.Sink.through l.writer ≡ g.W.Sink.through l.initial.writer;
  room : TakenRoom (g.W.Sink.room l.initial.writer) (g.W.Sink.room l.writer) l.at;
  whole : IsTrue g.W.Sink.grows → l.at < length l.bytes → l.at ≡ 0;
}

abbrev pub decreases-loop-at : goal.decreases-loop-at
decreases-loop-at g l = length l.bytes - l.at
