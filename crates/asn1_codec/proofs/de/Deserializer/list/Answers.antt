use Rattle.std.proofs.Common.{◌≡◌, ◌∷◌, ◌++◌, length, sym, ap, subst, ◌∙◌, arith}
use Rattle.asn1_der.specs.Tree.{ders}
use Rattle.asn1_der.specs.Length.{element, length_octets}
use Rattle.asn1_der.proofs.Elements.{element-split, element-content}
use Rattle.asn1_codec.specs.Reading.{TookFields, Refused, IsElement, IsList, AreFields}
use Rattle.asn1_codec.proofs.Chain.{at-exit, refused-as, refused-after, refused-within, took-as, took-within}
use Rattle.asn1_codec.proofs.Headers.{element_content_cut, header_sizes}
use Rattle.asn1_codec.proofs.Results.{handed-on}
use Rattle.asn1_codec.proofs.de.Deserializer.list.Goals as goal

pub returns-in_err-count : goal.returns-in_err-count
returns-in_err-count g c =
    at-exit _ _ _ _ c.from_residual.ensures.1
    (refused-as (IsList c.args.tag g.F.Fields.trees) (IsElement c.args.tag) _ _ _ c.in_err-count.ensures (λ bytes p. (ders (g.F.Fields.trees p.0), p.2)))

pub returns : goal.returns
returns g c =
    let header = c.in_ok-count.ensures.0 in
    let count = c.in_ok-count.count in
    let inside = c.enter-outside.ensures.inside in
    let low : c.enter-outside.new.self.limit ≡ count = ap (λ r. r.limit) inside in
    let start = c.enter-outside.new.self in
    let read = c.read-fields.new.from in
    handed-on _ (λ fields. TookFields g.F.Fields.trees fields start read) _ (λ fault. Refused (AreFields g.F.Fields.trees start.limit) start read fault) _ c.read-fields.ensures
    (λ fields parts.
    let trees = g.F.Fields.trees fields in
    let second = parts.1 in
    let size : length (ders trees) ≡ count = omega (arith, second.limit, parts.2, low) in (
      parts.0,
      took-as _ (element c.args.tag (ders trees)) _ _
          (ap (λ n. (c.args.tag ∷ length_octets n) ++ ders trees) (sym size) ∙ sym (element-split c.args.tag (ders trees)))
          (took-within (c.args.tag ∷ length_octets count) (ders trees) count c.enter-outside.result _ _ _ _ _ header
          inside c.enter-outside.ensures.outside second parts.2 (c.leave.ensures.sound second.sound_after)),
    ))
    (λ fault refused.
    let same = c.leave.ensures.refused refused.failed in
    refused-after (IsList c.args.tag g.F.Fields.trees) (AreFields g.F.Fields.trees count) (c.args.tag ∷ length_octets count) _ _ _ _ header
    (refused-within (AreFields g.F.Fields.trees count) (AreFields g.F.Fields.trees c.enter-outside.new.self.limit) count _ _ _ _
    inside c.in_ok-count.ensures.1 (subst (λ r. Refused (AreFields g.F.Fields.trees c.enter-outside.new.self.limit) c.enter-outside.new.self r fault) (sym same) refused)
    (λ bytes p. ((p.0, p.1, p.2, p.3 ∙ sym low), omega (arith, p.3))))
    (λ bytes rest more p e within.
    let parts = element_content_cut c.args.tag count bytes rest more (ders (g.F.Fields.trees p.0), p.2) e in
    let sizes = header_sizes c.args.tag count bytes parts.0 parts.3 parts.1 in
    let content : parts.0 ≡ ders (g.F.Fields.trees p.0) = element-content c.args.tag parts.0 (ders (g.F.Fields.trees p.0)) (sym parts.3 ∙ p.2) in
    (parts.0, rest, (p.0, p.1, content, parts.1), parts.2, omega (arith, sizes))))
