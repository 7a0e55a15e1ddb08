use Rattle.std.proofs.Common.{inl, inr, sym, subst}
use Rattle.std.specs.Prelude.{IsTrue}
use Rattle.asn1_codec.proofs.Chain.{at-exit}
use Rattle.x509_certificates.specs.ExtensionValues.{kinds_of}
use Rattle.x509_certificates.specs.ExtensionLaws.{row_of}
use Rattle.x509_certificates.proofs.extension.ExtensionSpelled.read_counted.Goals as goal

pub returns-in_err-read : goal.returns-in_err-read
returns-in_err-read c =
    at-exit _ _ _ _ c.from_residual.ensures.1
    (elim c.in_err-read.ensures [ inl memory ↦ inl memory | inr none ↦ inr (λ v n s. none (row_of v) n (v.of_its_id, s)) ])

pub returns : goal.returns
returns c = rw (← c.into_value-extn_id.ensures, ← c.of_kinds-extn_value.ensures) at c.in_ok-read.ensures.1
