use Rattle.std.proofs.Common.{◌∙◌}
use Rattle.asn1_leaves.proofs.NumberLemmas.{no_numbers, numbers-pop}
use Rattle.asn1_leaves.proofs.OidLemmas.{numbers-content_is, arcs-behind}
use Rattle.asn1_leaves.proofs.oid.ObjectIdentifier.arcs.Goals as goal

pub unreachable-requires : goal.unreachable-requires
unreachable-requires c =
    let numbers = rw (← c.as_slice.ensures.value) at (numbers-content_is c.self.inside.content.items c.self.invariant) in
    no_numbers c.as_slice.result.now c.in_default.ensures numbers.1 numbers.0

pub invariant_of-result : goal.invariant_of-result
invariant_of-result c =
    numbers-pop _ _ _ (c.in-Some.ensures.1 ∙ c.as_slice.ensures.value) (numbers-content_is c.self.inside.content.items c.self.invariant).0

pub returns : goal.returns
returns c =
    arcs-behind _ _ _ _ (c.in-Some.ensures.1 ∙ c.as_slice.ensures.value) c.min-first.ensures ∙ c.self.view_is
