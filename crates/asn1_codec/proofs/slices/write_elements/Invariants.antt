use Rattle.std.proofs.Common.{◌≡◌, take, length, None}
use Rattle.asn1_der.specs.Tree.{ders, trees_of}
use Rattle.asn1_der.specs.Refusals.{refusal_of_list}
use Rattle.asn1_codec.specs.Writing.{Wrote}
use Rattle.asn1_codec.proofs.slices.write_elements.Given as goal

abbrev pub invariant-loop-item : goal.invariant-loop-item
invariant-loop-item g l = record {
  wrote : Wrote (ders (trees_of g.T.Serialize.tree (take l.item-index l.items))) l.fn.to l.to;
  none : refusal_of_list g.T.Serialize.refusal (take l.item-index l.items) ≡ None;
  size : l.count ≡ length (ders (trees_of g.T.Serialize.tree (take l.item-index l.items)));
}
