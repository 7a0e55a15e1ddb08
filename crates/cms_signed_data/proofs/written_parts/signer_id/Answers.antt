use Rattle.std.proofs.Common.{refl, inl}
use Rattle.asn1_codec.proofs.Chain.{at-exit}
use Rattle.cms_signed_data.proofs.WriteLemmas.{no_certificate, spelled_of}
use Rattle.cms_signed_data.proofs.written_parts.signer_id.Goals as goal

pub returns-in_err-value : goal.returns-in_err-value
returns-in_err-value c = at-exit _ _ _ _ c.from_residual.ensures.1 (no_certificate c.args.certificate.now _ c.in_err-value.ensures.value)

pub returns-in_err-id : goal.returns-in_err-id
returns-in_err-id c = at-exit _ _ _ _ c.from_residual-in_err-id.ensures.1 (inl refl)

pub returns : goal.returns
returns c =
    let spelled = spelled_of c.args.certificate.now _ c.in_ok-value.ensures.value in
    (c.in_ok-value.value, spelled.0, spelled.1, c.in_ok-id.ensures)
