use Rattle.std.proofs.Common.{inl, inr}
use Rattle.asn1_codec.proofs.Chain.{at-exit}
use Rattle.x509_keys.specs.KeyInfoLaws.{public_row}
use Rattle.x509_keys.proofs.subject_public_key_info.SubjectPublicKeyInfoSpelled.read_counted.Goals as goal

pub returns-in_err-read : goal.returns-in_err-read
returns-in_err-read c =
    at-exit _ _ _ _ c.from_residual.ensures.1
    (elim c.in_err-read.ensures [ inl memory ↦ inl memory | inr none ↦ inr (λ v n s. none (public_row v) n (v.of_its_algorithm, s)) ])

pub returns : goal.returns
returns c = rw (← c.into_value-algorithm.ensures, ← c.of_kinds-subject_public_key.ensures) at c.in_ok-read.ensures.1
