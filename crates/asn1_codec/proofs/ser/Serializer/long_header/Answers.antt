use Rattle.std.proofs.Common.{◌∙◌}
use Rattle.asn1_codec.proofs.Chain.{at-exit}
use Rattle.asn1_codec.proofs.Writes.{header-too_long, header-first, header-rest}
use Rattle.asn1_codec.proofs.ser.Serializer.long_header.Goals as goal

pub returns-in_err-whole : goal.returns-in_err-whole
returns-in_err-whole g c =
    at-exit _ _ _ _ c.from_residual.ensures.1
    (λ content size. header-too_long c.args.tag c.args.count content _ _ _ _ c.requires (c.as_bytes.ensures ∙ c.of-octets.ensures) size
    c.in_err-whole.ensures.1 c.in_err-whole.ensures.2 c.in_err-whole.ensures.0)

pub returns-in_err-put : goal.returns-in_err-put
returns-in_err-put g c =
    at-exit _ _ _ _ c.from_residual-in_err-put.ensures.1
    (λ content size. header-first c.args.tag content _ _ _ _ c.in_ok-whole.ensures.1 c.in_err-put.ensures)

pub returns-in_err-put-2 : goal.returns-in_err-put-2
returns-in_err-put-2 g c =
    at-exit _ _ _ _ c.from_residual-in_err-put-2.ensures.1
    (λ content size. header-rest c.args.tag c.args.count content _ _ _ _ _ _ c.in_ok-whole.ensures.1 c.in_ok-put.ensures (c.as_bytes-2.ensures ∙ c.of-octets.ensures) size
    c.in_err-put-2.ensures)
