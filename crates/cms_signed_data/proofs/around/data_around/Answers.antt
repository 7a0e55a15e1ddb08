use Rattle.std.proofs.Common.{ap, ◌∙◌}
use Rattle.asn1_der.specs.Length.{element}
use Rattle.cms_signed_data.proofs.AroundLemmas.{five_same, data_built}
use Rattle.cms_signed_data.proofs.around.data_around.Goals as goal

pub returns : goal.returns
returns c = λ value n made is_certificate is_signer.
    data_built c.args.content_type.now c.args.content.now value n made c.args.certificate.now c.in_ok-version.version.items c.in_ok-digest_algorithm.digest_algorithm.items
    c.in_ok-encapsulated.encapsulated.items c.args.signer.now c.in_ok-bytes.bytes.items
    (five_same _ _ _ _ _ _ _ _ _ _ _ c.in_ok-bytes.ensures c.as_slice.ensures.value (c.as_slice-2.ensures.value ∙ c.in_ok-digest_algorithms.ensures ∙ ap (element 49) c.deref.ensures.value)
    c.as_slice-3.ensures.value (c.as_slice-4.ensures.value ∙ c.in_ok-certificates.ensures) (c.as_slice-5.ensures.value ∙ c.in_ok-signers.ensures))
    (c.in_ok-version.ensures tt) c.in_ok-digest_algorithm.ensures c.in_ok-encapsulated.ensures is_certificate is_signer
