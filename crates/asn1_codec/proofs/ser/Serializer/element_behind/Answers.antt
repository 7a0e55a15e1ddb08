use Rattle.std.proofs.Common.{◌∷◌, [], inr, refl, sym}
use Rattle.asn1_codec.proofs.Chain.{at-exit}
use Rattle.asn1_codec.proofs.Writes.{wrote-join, notwrote-before, notwrote-after, element-header, element-size, element-not_written, one_longer}
use Rattle.asn1_codec.proofs.ser.Serializer.element_behind.Goals as goal

pub returns-in_err-put : goal.returns-in_err-put
returns-in_err-put g c =
    at-exit _ _ _ _ c.from_residual-in_err-put.ensures.1
    (inr (element-not_written _ c.args.tag (c.args.lead ∷ c.args.content.now) _ _ _ _ (sym (one_longer c.args.lead c.args.content.now))
    (notwrote-after _ _ _ _ _ _ _ c.in_ok-whole.ensures.0 (notwrote-before _ (c.args.lead ∷ []) c.args.content.now _ _ _ c.in_err-put.ensures))))

pub returns-in_err-put-2 : goal.returns-in_err-put-2
returns-in_err-put-2 g c =
    at-exit _ _ _ _ c.from_residual-in_err-put-2.ensures.1
    (inr (element-not_written _ c.args.tag (c.args.lead ∷ c.args.content.now) _ _ _ _ (sym (one_longer c.args.lead c.args.content.now))
    (notwrote-after _ _ _ _ _ _ _ c.in_ok-whole.ensures.0 (notwrote-after _ (c.args.lead ∷ []) c.args.content.now _ _ _ _ c.in_ok-put.ensures c.in_err-put-2.ensures))))

pub returns : goal.returns
returns g c =
    let content = c.args.lead ∷ c.args.content.now in (
      element-header c.args.tag content _ _ _ _ c.in_ok-whole.ensures.0 (sym (one_longer c.args.lead c.args.content.now))
          (wrote-join (c.args.lead ∷ []) c.args.content.now _ _ _ c.in_ok-put.ensures c.in_ok-put-2.ensures),
      element-size c.args.tag content _ _ (sym (one_longer c.args.lead c.args.content.now)) c.in_ok-whole.ensures.1,
      refl,
    )
