use Rattle.std.proofs.Common.{ap, ◌∙◌}
use Rattle.asn1_der.specs.Length.{element}
use Rattle.cms_signed_data.proofs.AroundLemmas.{two_same, info_built}
use Rattle.cms_signed_data.proofs.around.info_around.Goals as goal

pub returns : goal.returns
returns c = λ value n made is_certificate is_signer.
    info_built c.args.content_type.now c.args.content.now value n made c.args.certificate.now c.in_ok-oid.oid.items c.in_ok-signed.signed.items c.in_ok-bytes.bytes.items
    (two_same _ _ _ _ _ c.in_ok-bytes.ensures c.as_slice.ensures.value (c.as_slice-2.ensures.value ∙ c.in_ok-tagged.ensures ∙ ap (element 160) c.deref.ensures.value))
    c.in_ok-oid.ensures (c.in_ok-signed.ensures value n made is_certificate is_signer)
