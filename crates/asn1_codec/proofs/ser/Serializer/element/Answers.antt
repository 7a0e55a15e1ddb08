use Rattle.std.proofs.Common.{inr, refl}
use Rattle.asn1_codec.proofs.Chain.{at-exit}
use Rattle.asn1_codec.proofs.Writes.{notwrote-after, element-header, element-size, element-not_written}
use Rattle.asn1_codec.proofs.ser.Serializer.element.Goals as goal

pub returns-in_err-put : goal.returns-in_err-put
returns-in_err-put g c =
    at-exit _ _ _ _ c.from_residual-in_err-put.ensures.1
    (inr (element-not_written _ c.args.tag c.args.content.now _ _ _ _ refl (notwrote-after _ _ _ _ _ _ _ c.in_ok-whole.ensures.0 c.in_err-put.ensures)))

pub returns : goal.returns
returns g c = (
  element-header c.args.tag c.args.content.now _ _ _ _ c.in_ok-whole.ensures.0 refl c.in_ok-put.ensures,
  element-size c.args.tag c.args.content.now _ _ refl c.in_ok-whole.ensures.1,
  refl,
)
