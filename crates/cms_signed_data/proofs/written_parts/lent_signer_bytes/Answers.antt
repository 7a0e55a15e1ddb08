use Rattle.std.proofs.Common.{refl}
use Rattle.cms_signed_data.proofs.AroundLemmas.{six_same, signer_built}
use Rattle.cms_signed_data.proofs.written_parts.lent_signer_bytes.Goals as goal

pub returns : goal.returns
returns c = λ sid held is_sid are_attributes.
    signer_built sid held c.args.signed.now c.in_ok-version.version.items c.args.id.now c.in_ok-digest_algorithm.digest_algorithm.items c.args.attributes.now
    c.in_ok-algorithm.algorithm.items c.in_ok-signature.signature.items c.in_ok-bytes.bytes.items
    (six_same _ _ _ _ _ _ _ _ _ _ _ _ _ c.in_ok-bytes.ensures c.as_slice.ensures.value refl c.as_slice-2.ensures.value refl c.as_slice-3.ensures.value c.as_slice-4.ensures.value)
    (c.in_ok-version.ensures tt) is_sid c.in_ok-digest_algorithm.ensures are_attributes c.in_ok-algorithm.ensures (c.in_ok-signature.ensures tt)
