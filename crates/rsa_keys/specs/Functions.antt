-- Key functions of RSA and Diffie-Hellman.
use Rattle.std.specs.Prelude.{◌≡◌, is_ok, Option, Some, None}
use Rattle.std.specs.Option.{option_map}
use Rattle.picky_asn1.specs.Bytes.{Bytes}
use Rattle.x509_keys.specs.declared.public_key.PublicKey.TheVariants.{Rsa}
use Rattle.x509_keys.specs.declared.subject_public_key_info.SubjectPublicKeyInfo.{SubjectPublicKeyInfo}
use Rattle.public_key_cryptography.specs.declared.group.Group.{Group}
use Rattle.public_key_cryptography.specs.Pkcs1.{signed}
use Rattle.public_key_cryptography.specs.declared.hash.HashFunction.TheVariants.{Sha256}
use Rattle.x509_keys.specs.Encodings.{HasEncoding}
use Rattle.x509_keys.specs.KeyFunctions.{KeysRecord, encodes_none}
use Rattle.x509_keys.specs.SignedBy.{encodes_by, signed_by}
use Rattle.x509_keys.specs.declared.functions.Signed.{Signed}
use Rattle.x509_keys.specs.declared.signature_algorithm.SignatureAlgorithm.{SignatureAlgorithm}
use Rattle.rsa_keys.specs.Agreements.{agreed, own_value}
use Rattle.rsa_keys.specs.Signatures.{checked, sha1_checked}
use Rattle.rsa_keys.specs.declared.own_key.OwnKey.{OwnKey}

-- the certificate's key is the public part of the own one
abbrev pub IsPublicPart : OwnKey → SubjectPublicKeyInfo → Type 0
IsPublicPart own key = key.subject_public_key ≡ Rsa (record { 0 = own.public })

-- the signature by a key over SHA-256, which names its algorithm; none if it doesn't verify under the public key
abbrev pub signed_by_own : OwnKey → Bytes → Option Signed
signed_by_own own text = option_map (λ signature. signed_by own.algorithm signature) (signed own.private Sha256 text)

-- the signature by a key over SHA-256, if there is a key and the signature verifies
abbrev pub signed_by_any : Option OwnKey → Bytes → Option Signed
signed_by_any (Some own) text = signed_by_own own text
signed_by_any None text = None

encodes_if : (named : SignatureAlgorithm) (signature : Option Bytes) (made : Signed) → option_map (λ octets. signed_by named octets) signature ≡ Some made → HasEncoding made.algorithm
encodes_if named (Some signature) made e = encodes_by named signature made e
encodes_if named None made e = absurd (cc (e))

pub encodes : (own : Option OwnKey) (text : Bytes) (made : Signed) → signed_by_any own text ≡ Some made → HasEncoding made.algorithm
encodes (Some own) text made e = encodes_if own.algorithm (signed own.private Sha256 text) made e
encodes None text made e = encodes_none text made e

-- signatures of RSA are verified, and made if there is a key of one's own; agreements are in one group
abbrev pub rsa_functions : Group → Option OwnKey → KeysRecord
rsa_functions group own = record {
  verifies = λ key algorithm text signature. is_ok (checked key algorithm text signature);
  verifies_sha1 = λ key text signature. is_ok (sha1_checked key text signature);
  sign = λ text. signed_by_any own text;
  public_value = λ words. own_value group words;
  agree = λ theirs words. agreed group theirs words;
  encodes = λ text made e. encodes own text made e;
}
