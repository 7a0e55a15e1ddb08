-- RSASSA-PKCS1-v1_5 (RFC 8017). Section numbers are the RFC's.
use Rattle.std.specs.Prelude.{◌≡◌, ℕ, ◌+◌, ◌-◌, ◌^◌, ◌%◌, Bool, ◌&&◌, nat_eq, nat_lt, List, [], ◌∷◌, ◌++◌, length, replicate, Option, Some, None, if◌then◌else◌}
use Rattle.std.specs.Str.{bytes_eq}
use Rattle.modular_arithmetic.specs.Moduli.{IsModulusOf}
use Rattle.modular_arithmetic.specs.Naturals.{i2osp, os2ip}
use Rattle.sha1.specs.Sha1.{sha1}
use Rattle.sha2.specs.Sha256.{sha256}
use Rattle.sha2.specs.Sha512.{sha384, sha512}
use Rattle.public_key_cryptography.specs.Keys.{refusal_of}
use Rattle.public_key_cryptography.specs.Primes.{root_of}
use Rattle.public_key_cryptography.specs.declared.hash.HashFunction.{HashFunction}
use Rattle.public_key_cryptography.specs.declared.hash.HashFunction.TheVariants.{Sha1, Sha256, Sha384, Sha512}
use Rattle.public_key_cryptography.specs.declared.public_key.PublicKey.{PublicKey}
use Rattle.public_key_cryptography.specs.declared.private_key.PrivateKey.{PrivateKey}

-- a message's digest (FIPS 180-4)
abbrev pub digest_of : HashFunction → List ℕ → List ℕ
digest_of Sha256 message = sha256 message
digest_of Sha384 message = sha384 message
digest_of Sha512 message = sha512 message
digest_of Sha1 message = sha1 message

-- the DER of a DigestInfo, up to the digest (9.2, note 1)
abbrev pub digest_info : HashFunction → List ℕ
digest_info Sha256 = 48 ∷ 49 ∷ 48 ∷ 13 ∷ 6 ∷ 9 ∷ 96 ∷ 134 ∷ 72 ∷ 1 ∷ 101 ∷ 3 ∷ 4 ∷ 2 ∷ 1 ∷ 5 ∷ 0 ∷ 4 ∷ 32 ∷ []
digest_info Sha384 = 48 ∷ 65 ∷ 48 ∷ 13 ∷ 6 ∷ 9 ∷ 96 ∷ 134 ∷ 72 ∷ 1 ∷ 101 ∷ 3 ∷ 4 ∷ 2 ∷ 2 ∷ 5 ∷ 0 ∷ 4 ∷ 48 ∷ []
digest_info Sha512 = 48 ∷ 81 ∷ 48 ∷ 13 ∷ 6 ∷ 9 ∷ 96 ∷ 134 ∷ 72 ∷ 1 ∷ 101 ∷ 3 ∷ 4 ∷ 2 ∷ 3 ∷ 5 ∷ 0 ∷ 4 ∷ 64 ∷ []
digest_info Sha1 = 48 ∷ 33 ∷ 48 ∷ 9 ∷ 6 ∷ 5 ∷ 43 ∷ 14 ∷ 3 ∷ 2 ∷ 26 ∷ 5 ∷ 0 ∷ 4 ∷ 20 ∷ []

-- a DigestInfo behind its padding, in len octets; `ahead` is the zero octet and the DER up to the digest
abbrev pub padded : ℕ → List ℕ → List ℕ → List ℕ
padded len ahead digest = (0 ∷ 1 ∷ []) ++ replicate (len - (length ahead + length digest) - 2) 255 ++ ahead ++ digest

-- EMSA-PKCS1-v1_5-ENCODE: a message's DigestInfo in len octets (9.2)
unfoldable pub encoded : ℕ → HashFunction → List ℕ → List ℕ
encoded len hash message = padded len (0 ∷ digest_info hash) (digest_of hash message)

-- RSAVP1 and I2OSP: what the signature is the private operation of, in the modulus's length (5.2.2, 4.1)
abbrev pub recovered : PublicKey → List ℕ → List ℕ
recovered key signature = i2osp key.len (os2ip signature ^ key.exponent % key.modulus.value)

-- RSASSA-PKCS1-v1_5-VERIFY: the signature is as long as the modulus and below it, and what is recovered is the encoded message (8.2.2)
unfoldable pub verifies : PublicKey → HashFunction → List ℕ → List ℕ → Bool
verifies key hash message signature =
    nat_eq (length signature) key.len && nat_lt (os2ip signature) key.modulus.value && bytes_eq (recovered key signature) (encoded key.len hash message)

-- RSASP1: a number to the private exponent, by the second form of a private key where the key has its primes, and by the first where not (5.2.1)
abbrev pub private_root : PrivateKey → ℕ → ℕ
private_root key m = root_of key.primes key.public.modulus.value (os2ip key.exponent.items) m

-- RSASSA-PKCS1-v1_5-SIGN (8.2.1)
abbrev pub signature_of : PrivateKey → HashFunction → List ℕ → List ℕ
signature_of key hash message = i2osp key.public.len (private_root key (os2ip (encoded key.public.len hash message)))

-- the signature, unless it doesn't verify under the public key
abbrev pub signed : PrivateKey → HashFunction → List ℕ → Option (List ℕ)
signed key hash message =
    if verifies key.public hash message (signature_of key hash message) then Some (signature_of key hash message) else None

-- the key is that of a modulus and a public exponent
pub record IsKeyOf (key : PublicKey) (n e : List ℕ) : Type 0 where
  pub taken : refusal_of n e ≡ None
  pub modulus : IsModulusOf key.modulus n
  pub len : key.len ≡ length n
  pub exponent : key.exponent ≡ os2ip e
