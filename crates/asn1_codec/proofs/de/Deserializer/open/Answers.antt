use Rattle.std.proofs.Common.{◌≡◌, [], ◌∷◌, ap, arith}
use Rattle.asn1_der.specs.Length.{length_octets}
use Rattle.asn1_codec.specs.Reading.{IsElement, IsLength, IsOctet}
use Rattle.asn1_codec.proofs.Chain.{at-exit, refused-front, refused-after, refused-taken, took-join, took-as}
use Rattle.asn1_codec.proofs.Headers.{element_front, element_first, element_length_cut, element_content_cut, header_sizes}
use Rattle.asn1_codec.proofs.de.Deserializer.open.Goals as goal

pub returns-in_err-first : goal.returns-in_err-first
returns-in_err-first g c =
    at-exit _ _ _ _ c.from_residual.ensures.1
    (refused-front (IsElement c.args.tag) IsOctet _ _ _ c.in_err-first.ensures (element_front c.args.tag))

pub returns-then-first-tag : goal.returns-then-first-tag
returns-then-first-tag g c =
    refused-taken (IsElement c.args.tag) (c.in_ok-first.first ∷ []) _ _ _ _ _ c.in_ok-first.ensures c.refuse.ensures.after c.refuse.ensures.fault tt
    (λ bytes rest more p e within. c.if-first-tag.true (element_first c.args.tag c.in_ok-first.first bytes rest more p e))

pub returns-in_err-count : goal.returns-in_err-count
returns-in_err-count g c =
    let took = took-as (c.in_ok-first.first ∷ []) (c.args.tag ∷ []) _ _ (ap (λ x. x ∷ []) c.if-first-tag.false) c.in_ok-first.ensures in
    at-exit _ _ _ _ c.from_residual-in_err-count.ensures.1
    (refused-after (IsElement c.args.tag) (IsLength c.take_octet.new.self.limit) (c.args.tag ∷ []) _ _ _ _ took c.in_err-count.ensures
    (element_length_cut c.args.tag c.args.self.now.limit c.take_octet.new.self.limit took.limit))

pub returns-then-self-count : goal.returns-then-self-count
returns-then-self-count g c =
    let first = took-as (c.in_ok-first.first ∷ []) (c.args.tag ∷ []) _ _ (ap (λ x. x ∷ []) c.if-first-tag.false) c.in_ok-first.ensures in
    let header = took-join (c.args.tag ∷ []) (length_octets c.in_ok-count.count) _ _ _ first c.in_ok-count.ensures in
    refused-taken (IsElement c.args.tag) (c.args.tag ∷ length_octets c.in_ok-count.count) _ _ _ _ _ header c.refuse-then-self-count.ensures.after
    c.refuse-then-self-count.ensures.fault tt
    (λ bytes rest more p e within.
    let parts = element_content_cut c.args.tag c.in_ok-count.count bytes rest more p e in
    let sizes = header_sizes c.args.tag c.in_ok-count.count bytes parts.0 parts.3 parts.1 in
    let room : c.self.inside.limit ≡ c.take_length.new.self.limit = ap (λ r. r.limit) c.self.view_is in
    omega (arith, header.limit, sizes, within, room, c.if-self-count.true, parts.1))
