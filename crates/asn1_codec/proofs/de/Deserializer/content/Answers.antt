use Rattle.std.proofs.Common.{◌∷◌, ◌++◌, sym, ap, ◌∙◌, arith}
use Rattle.asn1_der.specs.Length.{element, length_octets}
use Rattle.asn1_der.proofs.Elements.{element-split}
use Rattle.asn1_codec.specs.Reading.{IsElement, IsCount}
use Rattle.asn1_codec.proofs.Chain.{at-exit, refused-after, took-join, took-as}
use Rattle.asn1_codec.proofs.Headers.{element_content_cut, header_sizes}
use Rattle.asn1_codec.proofs.de.Deserializer.content.Goals as goal

pub returns-in_err-content : goal.returns-in_err-content
returns-in_err-content g c =
    let header = c.in_ok-count.ensures.0 in
    let count = c.in_ok-count.count in
    at-exit _ _ _ _ c.from_residual-in_err-content.ensures.1
    (refused-after (IsElement c.args.tag) (IsCount count) (c.args.tag ∷ length_octets count) _ _ _ _ header c.in_err-content.ensures
    (λ bytes rest more p e within.
    let parts = element_content_cut c.args.tag count bytes rest more p e in
    let sizes = header_sizes c.args.tag count bytes parts.0 parts.3 parts.1 in
    (parts.0, rest, parts.1, parts.2, omega (arith, sizes))))

pub returns : goal.returns
returns g c =
    let header = c.in_ok-count.ensures.0 in
    let content = c.in_ok-content.content.items in
    took-as _ (element c.args.tag content) _ _
    (ap (λ n. (c.args.tag ∷ length_octets n) ++ content) (sym c.in_ok-content.ensures.1) ∙ sym (element-split c.args.tag content))
    (took-join (c.args.tag ∷ length_octets c.in_ok-count.count) content _ _ _ header c.in_ok-content.ensures.0)
