use Rattle.std.proofs.Common.{inl, inr}
use Rattle.asn1_codec.proofs.Chain.{at-exit}
use Rattle.x509_certificates.proofs.open_ssl_attributes.OpenSslAttributesSpelled.read_counted.Goals as goal

pub returns-in_err-read : goal.returns-in_err-read
returns-in_err-read c =
    at-exit _ _ _ _ c.from_residual.ensures.1
    (elim c.in_err-read.ensures [ inl memory ↦ inl memory | inr none ↦ inr (λ v n s. none v.0 n s) ])
