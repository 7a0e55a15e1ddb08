use Rattle.asn1_leaves.proofs.DottedLemmas.{made_of_text}
use Rattle.asn1_leaves.proofs.oid.ObjectIdentifier.from_text.Goals as goal

pub returns : goal.returns
returns c =
    let dotted = rw c.in-Some.is at c.in_ok-arcs.ensures in
    made_of_text c.in-Some.arcs.items c.args.text.now c.from_arcs.result dotted (rw c.as_slice.ensures.value at c.from_arcs.ensures)
