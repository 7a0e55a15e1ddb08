use Rattle.std.proofs.Common.{◌≡◌, ◌-◌, ℕ, List, length, Some}
use Rattle.picky_asn1_der.specs.Peeking.{left_of}
use Rattle.picky_asn1_der.proofs.misc.peekable_reader.PeekableReader.look.Given as goal

abbrev pub invariant-loop-self : goal.invariant-loop-self
invariant-loop-self g l = record {
  kept : (input : List ℕ) → left_of l.initial.self ≡ Some input → left_of l.self ≡ Some input;
  pos : l.self.pos ≡ l.initial.self.pos;
  faults : l.self.faults ≡ l.initial.self.faults;
  same : l.self.through ≡ l.initial.self.through;
}

abbrev pub decreases-loop-self : goal.decreases-loop-self
decreases-loop-self g l = l.count - length l.self.seen
