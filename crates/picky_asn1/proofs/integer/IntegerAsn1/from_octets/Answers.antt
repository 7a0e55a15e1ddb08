use Rattle.picky_asn1.proofs.IntegerLemmas.{content-from_octets}
use Rattle.picky_asn1.proofs.integer.IntegerAsn1.from_octets.Goals as goal

pub invariant_of-result : goal.invariant_of-result
invariant_of-result c =
    rw c.in_ok-octets.ensures (content-from_octets c.args.octets.now c.type_inv.octets c.requires)

pub returns-clause-content : goal.returns-clause-content
returns-clause-content c =
    rw c.in_ok-octets.ensures (content-from_octets c.args.octets.now c.type_inv.octets c.requires)
