use Rattle.std.proofs.Common.{◌≡◌, ◌∷◌, ◌++◌}
use Rattle.std.specs.List.{flat_map}
use Rattle.std.specs.Fmt.{decimal, HasWritten, IsPlainFormatter}
use Rattle.asn1_leaves.proofs.oid.ObjectIdentifierDisplay.fmt.Given as goal

abbrev pub invariant-loop-arc : goal.invariant-loop-arc
invariant-loop-arc g l = record {
  can_next : (goal.iterator-loop-arc g).can_next l.arc-iterator;
  is_finite : (goal.iterator-loop-arc g).is_finite l.arc-iterator;
  left : l.initial.arc-iterator ≡ l.yielded ++ l.arc-iterator;
  written : IsPlainFormatter l.initial.f → HasWritten g.W.Write.write_str_gives l.initial.f (flat_map (λ arc. 46 ∷ decimal arc) l.yielded) l.f;
}
