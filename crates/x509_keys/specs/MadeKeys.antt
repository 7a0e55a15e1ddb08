-- Private keys that are made of their parts.
use Rattle.std.specs.Prelude.{◌≡◌, ℕ, Bool, not, ◌&&◌, List, Option}
use Rattle.asn1_leaves.specs.ObjectIdentifier.{oid_content}
use Rattle.picky_asn1.specs.BitString.{Bits}
use Rattle.x509_algorithms.specs.AlgorithmsMade.{IsMade}
use Rattle.x509_algorithms.specs.declared.algorithm_identifier.AlgorithmIdentifier.{AlgorithmIdentifier}
use Rattle.x509_algorithms.specs.declared.algorithm_kinds.AlgorithmIdentifierParameters.{AlgorithmIdentifierParameters}
use Rattle.x509_keys.specs.KeyIdentifiers.{is_rsa, is_elliptic, is_named_curve}
use Rattle.x509_keys.specs.PrivateKeys.{version_with}
use Rattle.x509_keys.specs.PublicKeyFields.{key_of_field}
use Rattle.x509_keys.specs.declared.private_key_fields.PrivateKeyFields.{PrivateKeyFields}
use Rattle.x509_keys.specs.declared.private_key_value.PrivateKeyValue.{PrivateKeyValue}

-- the key has this algorithm, this private key and this public key, and the version that belongs to the public key
pub record AreParts (algorithm : AlgorithmIdentifier) (key : PrivateKeyValue) (public : Option Bits) (made : PrivateKeyFields) : Type 0 where
  pub version : made.version ≡ version_with public
  pub of_algorithm : made.private_key_algorithm ≡ algorithm
  pub of_key : made.private_key ≡ key
  pub of_public : key_of_field made.public_key ≡ public

-- the key has the algorithm with this identifier and these parameters, this private key and this public key, and the version that
-- belongs to the public key
pub record AreMade (arcs : List ℕ) (parameters : AlgorithmIdentifierParameters) (key : PrivateKeyValue) (public : Option Bits) (made : PrivateKeyFields) : Type 0 where
  pub version : made.version ≡ version_with public
  pub of_algorithm : IsMade arcs parameters made.private_key_algorithm
  pub of_key : made.private_key ≡ key
  pub of_public : key_of_field made.public_key ≡ public

-- the identifier decides a key of a curve of Edwards or Montgomery, of which it is the name (RFC 8410, section 3)
abbrev pub is_curve : List ℕ → Bool
is_curve arcs = not (is_rsa (oid_content arcs)) && (not (is_elliptic (oid_content arcs)) && is_named_curve (oid_content arcs))
