use Rattle.std.proofs.Common.{◌≡◌, ◌<◌, ◌∷◌, length, ap, ◌∙◌, arith}
use Rattle.std.proofs.lemmas.Bool.Decides.{nat_tests}
use Rattle.picky_asn1.specs.Integer.{integer_value}
use Rattle.picky_asn1.specs.IntegerLaws.{integer_value-low}
use Rattle.picky_asn1.proofs.integer.IntegerAsn1.from_bytes_be_unsigned.Goals as goal

pub returns : goal.returns
returns c =
    let octets = c.args.octets.now in
    let some : 0 < length octets = grind (arith, nat_tests, c.if-is_empty.ensures) in
    let signed : c.as_slice.result.now ≡ 0 ∷ octets = c.as_slice.ensures.value ∙ c.in_ok-signed.ensures in
    (some, c.in_ok-from_octets.ensures.value ∙ c.shortest.ensures.value ∙ ap integer_value signed ∙ integer_value-low (0 ∷ octets) (omega arith))
