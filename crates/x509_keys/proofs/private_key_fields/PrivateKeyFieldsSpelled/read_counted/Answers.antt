use Rattle.std.proofs.Common.{inl, inr}
use Rattle.asn1_codec.proofs.Chain.{at-exit}
use Rattle.x509_keys.specs.PrivateLaws.{private_row}
use Rattle.x509_keys.proofs.private_key_fields.PrivateKeyFieldsSpelled.read_counted.Goals as goal

pub returns-in_err-read : goal.returns-in_err-read
returns-in_err-read c =
    at-exit _ _ _ _ c.from_residual.ensures.1
    (elim c.in_err-read.ensures [ inl memory ↦ inl memory | inr none ↦ inr (λ v n s. none (private_row v) n (v.of_its_algorithm, s)) ])

pub returns : goal.returns
returns c = rw (← c.into_value-version.ensures, ← c.parts_of-private_key.ensures) at c.in_ok-read.ensures.1
