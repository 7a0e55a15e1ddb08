use Rattle.asn1_der.specs.Tree.{ders, trees_of, AreWhole}
use Rattle.asn1_codec.specs.Reading.{Passed}
use Rattle.asn1_codec.proofs.elements.ElementsFields.read.Given as goal

abbrev pub invariant-elements : goal.invariant-elements
invariant-elements g l = record {
  whole : AreWhole (trees_of g.T.Serialize.tree l.items.items);
  took : Passed (ders (trees_of g.T.Serialize.tree l.items.items)) l.fn.from l.from;
}

abbrev pub decreases-elements : goal.decreases-elements
decreases-elements g l = l.from.limit
