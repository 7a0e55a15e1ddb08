use Rattle.std.proofs.Common.{refl, inl}
use Rattle.asn1_codec.proofs.Chain.{at-exit}
use Rattle.cms_signed_data.proofs.WriteLemmas.{unsigned, written}
use Rattle.cms_signed_data.proofs.signed_content.SignedContent.write.Goals as goal

pub returns-in_err-id : goal.returns-in_err-id
returns-in_err-id g c = at-exit _ _ _ _ c.from_residual.ensures.1 c.in_err-id.ensures

pub returns-in_err-attributes : goal.returns-in_err-attributes
returns-in_err-attributes g c = at-exit _ _ _ _ c.from_residual-in_err-attributes.ensures.1 (inl refl)

pub returns-in_err-covered : goal.returns-in_err-covered
returns-in_err-covered g c = at-exit _ _ _ _ c.from_residual-in_err-covered.ensures.1 (inl refl)

pub returns-in_err-signed : goal.returns-in_err-signed
returns-in_err-signed g c = at-exit _ _ _ _ c.from_residual-in_err-signed.ensures.1 (inl refl)

pub returns-in_err-signer : goal.returns-in_err-signer
returns-in_err-signer g c = at-exit _ _ _ _ c.from_residual-in_err-signer.ensures.1 (inl refl)

pub returns-in_err-bytes : goal.returns-in_err-bytes
returns-in_err-bytes g c = at-exit _ _ _ _ c.from_residual-in_err-bytes.ensures.1 (inl refl)

pub returns-in_default : goal.returns-in_default
returns-in_default g c =
    unsigned (g.K.KeyFunctions.functions c.args.keys.now).sign c.args.content_type.now c.args.content.now c.args.certificate.now _ _ _ _ _ c.in_ok-id.ensures
    c.deref.ensures.value c.in_ok-attributes.ensures.0 c.in_ok-covered.ensures c.deref-2.ensures.value _ c.in_ok-signed.ensures c.in_default.is

pub returns : goal.returns
returns g c =
    written (g.K.KeyFunctions.functions c.args.keys.now).sign c.args.content_type.now c.args.content.now c.args.certificate.now _ _ _ _ _ c.in_ok-id.ensures
    c.deref.ensures.value c.in_ok-attributes.ensures c.in_ok-covered.ensures c.deref-2.ensures.value _ c.in-Some.signed c.in_ok-signed.ensures c.in-Some.is
    _ _ _ _ _ c.deref-3.ensures.value c.deref-4.ensures.value c.in_ok-signer.ensures c.deref-5.ensures.value c.in_ok-bytes.ensures
