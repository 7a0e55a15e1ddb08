-- Parameters of RSASSA-PSS as a row of fields.
use Rattle.std.proofs.Common.{◌≡◌, ap}
use Rattle.std.specs.Prelude.{ℤ, ⊤}
use Rattle.x509_spelling.specs.declared.enclosed.Explicit.{Explicit}
use Rattle.x509_algorithms.specs.declared.hash_algorithm.HashAlgorithm.{HashAlgorithm}
use Rattle.x509_algorithms.specs.declared.mask_gen_algorithm.MaskGenAlgorithm.{MaskGenAlgorithm}
use Rattle.x509_algorithms.specs.declared.rsassa_pss_params.RsassaPssParams.{RsassaPssParams}

abbrev pub PssRow : Type 0
PssRow = Explicit 0 HashAlgorithm × (Explicit 1 MaskGenAlgorithm × (Explicit 2 ℤ × ⊤))

-- RSASSA-PSS-params has hashAlgorithm, maskGenAlgorithm and saltLength, also where DEFAULT would leave one out. A trailerField is refused
-- (RFC 8017, appendix A.2.3). Test: `PSS, no salt`, `PSS, trailer field` of `read.txt`.
-- The hash of RSASSA-PSS is one of SHA-2 or SHA-3: SHA-1 is refused (RFC 8017, appendix A.2.3). Test: `PSS with SHA-1` of `read.txt`.
abbrev pub pss_row : RsassaPssParams → PssRow
pss_row v = (v.hash_algorithm, (v.mask_gen_algorithm, (v.salt_length, tt)))

pub one_pss : (v w : RsassaPssParams) → pss_row v ≡ pss_row w → v ≡ w
one_pss v w e = ap (λ (f : PssRow). record { hash_algorithm = f.0; mask_gen_algorithm = f.1.0; salt_length = f.1.1.0 }) e
