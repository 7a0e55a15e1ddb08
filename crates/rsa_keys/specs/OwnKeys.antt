-- Keys by which a party signs.
use Rattle.std.specs.Prelude.{◌≡◌, Bool, ◌&&◌, length, Option, Some, Ok, Err, Result, IsTrue, is_none}
use Rattle.std.specs.Option.{option_map}
use Rattle.std.specs.Str.{bytes_eq}
use Rattle.picky_asn1.specs.Integer.{unsigned_octets}
use Rattle.x509_oids.specs.Identifiers as oids
use Rattle.x509_keys.specs.declared.rsa_public_key.RsaPublicKey.{RsaPublicKey}
use Rattle.x509_keys.specs.declared.signature_algorithm.SignatureAlgorithm.{SignatureAlgorithm}
use Rattle.modular_arithmetic.specs.Naturals.{os2ip}
use Rattle.public_key_cryptography.specs.Keys.{refusal_of}
use Rattle.public_key_cryptography.specs.declared.public_key.PublicKey as arithmetic
use Rattle.rsa_keys.specs.Values.{is_natural}
use Rattle.rsa_keys.specs.Signatures.{Numbers, numbers_of, refusal_named}
use Rattle.rsa_keys.specs.declared.refusal.RsaKeyRefusal.{RsaKeyRefusal}

-- no number of the key is negative
abbrev pub has_naturals : RsaPublicKey → Bool
has_naturals key = is_natural key.modulus && is_natural key.public_exponent

-- the numbers of the key aren't refused
abbrev pub is_taken : RsaPublicKey → Bool
is_taken key = is_none (refusal_of (unsigned_octets key.modulus) (unsigned_octets key.public_exponent))

-- the key of RSA's arithmetic has the numbers of the public key, which aren't refused
pub record IsUsable (made : arithmetic.PublicKey) (key : RsaPublicKey) : Type 0 where
  pub naturals : IsTrue (has_naturals key)
  pub taken : IsTrue (is_taken key)
  pub len : made.len ≡ length (unsigned_octets key.modulus)
  pub exponent : made.exponent ≡ os2ip (unsigned_octets key.public_exponent)
  pub value : made.modulus.value ≡ os2ip (unsigned_octets key.modulus)

abbrev pub refusal_in : Result Numbers RsaKeyRefusal → Option RsaKeyRefusal
refusal_in (Ok numbers) = option_map refusal_named (refusal_of numbers.0 numbers.1)
refusal_in (Err refusal) = Some refusal

-- why a public key is refused
abbrev pub key_refusal : RsaPublicKey → Option RsaKeyRefusal
key_refusal key = refusal_in (numbers_of key)

-- the algorithm is sha256WithRSAEncryption
abbrev pub is_sha256 : SignatureAlgorithm → Bool
is_sha256 named = bytes_eq named.algorithm.algorithm.0 oids.sha256_with_rsa_encryption
