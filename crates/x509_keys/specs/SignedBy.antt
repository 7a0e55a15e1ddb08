-- Signatures that name an algorithm with an encoding.
use Rattle.std.specs.Prelude.{◌≡◌, Some}
use Rattle.std.proofs.Common.{subst}
use Rattle.picky_asn1.specs.Bytes.{Bytes}
use Rattle.x509_keys.specs.Encodings.{HasEncoding}
use Rattle.x509_keys.specs.declared.functions.Signed.{Signed}
use Rattle.x509_keys.specs.declared.signature_algorithm.SignatureAlgorithm.{SignatureAlgorithm}

-- the signature, with that algorithm's name
abbrev pub signed_by : SignatureAlgorithm → Bytes → Signed
signed_by named signature = record { algorithm = named.algorithm; signature = signature }

pub encodes_by : (named : SignatureAlgorithm) (signature : Bytes) (made : Signed) → Some (signed_by named signature) ≡ Some made → HasEncoding made.algorithm
encodes_by named signature made e =
    let same : signed_by named signature ≡ made = cc (e) in
    subst (λ (s : Signed). HasEncoding s.algorithm) same named.encoded
