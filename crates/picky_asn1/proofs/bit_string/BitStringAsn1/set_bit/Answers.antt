use Rattle.std.proofs.Common.{◌/◌, ◌<◌, length, ◌∙◌, ap, arith}
use Rattle.std.specs.Int.{bit_at}
use Rattle.std.proofs.lemmas.List.{get_or_read}
use Rattle.picky_asn1.proofs.BitLemmas.{IsBitString-set, bit_of-set}
use Rattle.picky_asn1.proofs.bit_string.BitStringAsn1.set_bit.Goals as goal

pub invariant_of-self : goal.invariant_of-self
invariant_of-self c =
    let octets = c.self.inside.octets.items in
    let within = rw (← c.self.view_is) at c.requires in
    let inside : c.args.i / 8 < length octets = omega arith in
    let octet = get_or_read octets _ _ inside c.index-octet.ensures 0 in
    IsBitString-set octets c.self.inside.unused c.args.i c.with_bit.result c.self.invariant within
    (λ k low other. c.with_bit.ensures.elsewhere k low other ∙ ap (λ x. bit_at x k) octet)

pub returns-clause-bits : goal.returns-clause-bits
returns-clause-bits c =
    let octets = c.self.inside.octets.items in
    let within = rw (← c.self.view_is) at c.requires in
    let inside : c.args.i / 8 < length octets = omega arith in
    let octet = get_or_read octets _ _ inside c.index-octet.ensures 0 in
    rw (← c.self.view_is) (bit_of-set octets c.self.inside.unused c.args.i c.with_bit.result c.args.value inside c.with_bit.ensures.at_place
    (λ k low other. c.with_bit.ensures.elsewhere k low other ∙ ap (λ x. bit_at x k) octet))
