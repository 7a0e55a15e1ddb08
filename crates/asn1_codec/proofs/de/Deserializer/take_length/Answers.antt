use Rattle.std.proofs.Common.{◌∷◌, [], sym}
use Rattle.asn1_der.specs.Length.{length_octets}
use Rattle.asn1_der.proofs.Elements.{length_octets-short}
use Rattle.asn1_codec.specs.Reading.{IsLength, IsOctet}
use Rattle.asn1_codec.proofs.Chain.{took-as, refused-front, at-exit}
use Rattle.asn1_codec.proofs.Headers.{length_front, length_tail}
use Rattle.asn1_codec.proofs.de.Deserializer.take_length.Goals as goal

pub returns-in_err-first : goal.returns-in_err-first
returns-in_err-first g c =
    at-exit _ _ _ _ c.from_residual.ensures.1
    (refused-front (IsLength c.args.self.now.limit) IsOctet _ _ _ c.in_err-first.ensures (length_front c.args.self.now.limit))

pub returns-then-first-lt128 : goal.returns-then-first-lt128
returns-then-first-lt128 g c =
    took-as (c.in_ok-first.first ∷ []) (length_octets c.in_ok-first.first) _ _ (sym (length_octets-short c.in_ok-first.first c.if-first-lt128.true)) c.in_ok-first.ensures

pub returns : goal.returns
returns g c = length_tail c.in_ok-first.first _ _ _ c.take_long_length.result c.in_ok-first.ensures c.take_long_length.ensures
