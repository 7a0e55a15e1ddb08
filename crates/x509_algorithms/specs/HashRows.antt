-- The identifier of a hash as a row of fields.
use Rattle.std.specs.Prelude.{◌≡◌, ⊤}
use Rattle.std.proofs.Common.{ap}
use Rattle.x509_spelling.specs.declared.implied.Implied.{Implied}
use Rattle.x509_algorithms.specs.declared.hash_algorithm.HashAlgorithm.{HashAlgorithm}
use Rattle.x509_algorithms.specs.declared.hash_algorithm.HashOid.{HashOid}

-- the identifier, and NULL
abbrev pub hash_row : HashAlgorithm → HashOid × (Implied ⊤ × ⊤)
hash_row h = (record { 0 = h }, (record { 0 = tt }, tt))

pub one_hash : (v w : HashAlgorithm) → hash_row v ≡ hash_row w → v ≡ w
one_hash v w e = ap (λ (f : HashOid × (Implied ⊤ × ⊤)). f.0.0) e
