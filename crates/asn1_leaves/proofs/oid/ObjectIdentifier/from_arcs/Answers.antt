use Rattle.asn1_leaves.proofs.OidLemmas.{made_of_arcs}
use Rattle.asn1_leaves.proofs.oid.ObjectIdentifier.from_arcs.Goals as goal

pub invariant_of-result : goal.invariant_of-result
invariant_of-result c =
    (made_of_arcs c.args.arcs.now c.in_ok-content.content.items c.in-Some.number (λ i. (c.type_inv.arcs i).fits) c.in-len2-up.len_at_least c.in-Some.ensures.0 c.in-Some.ensures.1 c.in_ok-content.ensures).0

pub returns : goal.returns
returns c =
    let made = made_of_arcs c.args.arcs.now c.in_ok-content.content.items c.in-Some.number (λ i. (c.type_inv.arcs i).fits) c.in-len2-up.len_at_least c.in-Some.ensures.0 c.in-Some.ensures.1 c.in_ok-content.ensures in
    (made.1, made.2)
