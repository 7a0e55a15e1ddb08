use Rattle.std.proofs.Common.{inl, inr, ap, sym, ◌∙◌}
use Rattle.asn1_codec.proofs.Chain.{at-exit}
use Rattle.x509_certificates.specs.ExtensionsLaws.{ExtensionsRow, extensions_row}
use Rattle.x509_certificates.proofs.ExtensionsLemmas.{never_empty}
use Rattle.x509_certificates.proofs.certificate_extensions.CertificateExtensionsSpelledFields.read_content.Goals as goal

pub returns-in_err-read : goal.returns-in_err-read
returns-in_err-read c =
    at-exit _ _ _ _ c.from_residual.ensures.1
    (elim c.in_err-read.ensures.told [ inl memory ↦ inl memory | inr none ↦ inr (λ v n s. none (extensions_row v) n s) ])

pub returns-then-not-is_some : goal.returns-then-not-is_some
returns-then-not-is_some c = inr (λ v n s.
    never_empty v c.into_value-tagged.result.0
    (ap (λ (f : ExtensionsRow). f.0) (c.in_ok-read.ensures.one (extensions_row v) n s ∙ sym c.into_value-tagged.ensures)) (sym c.is_some.ensures ∙ c.if-not-is_some.true))

pub returns : goal.returns
returns c = rw (← c.into_value-tagged.ensures) at c.in_ok-read.ensures.told
