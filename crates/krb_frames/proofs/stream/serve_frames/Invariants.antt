use Rattle.std.proofs.Common.{◌≡◌, ℕ, List, Some}
use Rattle.std.specs.Iterator.{IsFinite, size}
use Rattle.krb_frames.proofs.Progress.{Progress}
use Rattle.krb_frames.proofs.stream.serve_frames.Given as goal

abbrev pub invariant-frames : goal.invariant-frames
invariant-frames g l = record {
  can : g.M.Iterator.can_next l.moments;
  ends : IsFinite (g.M.Iterator.remaining l.moments);
  read_count : g.R.Source.failed l.reader ≡ g.R.Source.failed l.initial.reader;
  words_count : g.K.Source.failed l.words_reader ≡ g.K.Source.failed l.initial.words_reader;
  write_count : g.W.Sink.failed l.writer ≡ g.W.Sink.failed l.initial.writer;
  progress : (stream words : List ℕ) → g.R.Source.left l.initial.reader ≡ Some stream → g.K.Source.left l.initial.words_reader ≡ Some words
      → Progress (g.A.Responder.replies l.responder) (g.A.Responder.may_want_memory l.responder) g.M.Iterator.next_gives stream words l.initial.moments (g.W.Sink.written l.initial.writer)
      (g.R.Source.left l.reader) (g.K.Source.left l.words_reader) (g.W.Sink.written l.writer) l.moments l.answered;
}

abbrev pub decreases-frames : goal.decreases-frames
decreases-frames g l = size (g.M.Iterator.remaining l.moments)
