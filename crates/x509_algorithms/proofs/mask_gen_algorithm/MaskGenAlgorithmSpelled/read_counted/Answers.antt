use Rattle.std.proofs.Common.{inl, inr}
use Rattle.asn1_codec.proofs.Chain.{at-exit}
use Rattle.x509_algorithms.specs.MaskRows.{mask_row}
use Rattle.x509_algorithms.proofs.mask_gen_algorithm.MaskGenAlgorithmSpelled.read_counted.Goals as goal

pub returns-in_err-read : goal.returns-in_err-read
returns-in_err-read c =
    at-exit _ _ _ _ c.from_residual.ensures.1
    (elim c.in_err-read.ensures [ inl memory ↦ inl memory | inr none ↦ inr (λ v n s. none (mask_row v) n s) ])

pub returns : goal.returns
returns c = rw (← c.into_value.ensures) at c.in_ok-read.ensures
