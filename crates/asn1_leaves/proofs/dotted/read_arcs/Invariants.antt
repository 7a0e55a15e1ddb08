use Rattle.std.proofs.Common.{ℕ, List, ◌++◌, length}
use denote.Text.{Utf8}
use denote.Shadow.{shadow}
use Rattle.asn1_leaves.specs.ObjectIdentifier.{IsDotted}
use Rattle.asn1_leaves.proofs.dotted.read_arcs.Given as goal

abbrev pub invariant-loop-part : goal.invariant-loop-part
invariant-loop-part l = record {
  text : shadow (Utf8 l.rest);
  whole : (more : List ℕ) → IsDotted more l.rest → IsDotted (l.arcs.items ++ more) l.text;
  rest : ((more : List ℕ) → ¬ IsDotted more l.rest) → (all : List ℕ) → ¬ IsDotted all l.text;
}

abbrev pub decreases-loop-part : goal.decreases-loop-part
decreases-loop-part l = length l.rest
