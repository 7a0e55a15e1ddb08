use Rattle.std.proofs.Common.{◌≡◌, ◌∷◌, ◌++◌, [], length, arith, ap, ◌∙◌}
use Rattle.asn1_der.specs.Length.{length_octets}
use Rattle.picky_asn1_der.proofs.Splits.{made}
use Rattle.picky_asn1_der.proofs.raw_der.Asn1RawDer.of.Goals as goal

pub invariant_of-result : goal.invariant_of-result
invariant_of-result c =
    let octets : c.as_bytes.result.now ≡ length_octets (length c.args.content.now) = c.as_bytes.ensures ∙ c.of.ensures in
    let header : c.extend_from_slice.new.self.items ≡ c.args.first ∷ length_octets (length c.args.content.now) =
    c.in_ok-extend_from_slice.ensures.items ∙ ap (λ l. l ++ c.as_bytes.result.now) (c.in_ok-push.ensures.items ∙ ap (λ l. l ++ (c.args.first ∷ [])) c.new-bytes.ensures.items)
    ∙ ap (λ l. c.args.first ∷ l) octets in
    let parts = made c.args.first c.args.content.now c.extend_from_slice.new.self.items c.extend_from_slice-2.new.self.items c.len-start.result header
    c.in_ok-extend_from_slice-2.ensures.items (omega (arith, c.len-start.ensures, c.extend_from_slice.new.self.ok.0)) in
    (c.requires, parts.0, parts.1)
