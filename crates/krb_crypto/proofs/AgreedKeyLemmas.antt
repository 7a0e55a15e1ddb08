-- The key of an agreement is a key of its suite.
use Rattle.std.proofs.Common.{◌≡◌, ◌<◌, ℕ, zero, suc, ◌*◌, List, ◌∷◌, length, slice_index, get_or, refl, arith}
use Rattle.std.proofs.lemmas.List.{length-append, length-take-le}
use Rattle.std.specs.Int.{div_ceil, to_be_bytes, w32}
use Rattle.sha1.specs.Sha1.{digest_bytes, sha1}
use Rattle.block_ciphers.specs.Bytes.{IsBytes}
use Rattle.block_ciphers.proofs.States.{IsBytes-append, IsBytes-from_below, IsBytes-none, IsBytes-take}
use Rattle.krb_crypto.specs.declared.suite.CipherSuite.{CipherSuite}
use Rattle.krb_crypto.specs.declared.suite.CipherSuite.TheVariants.{Aes128CtsHmacSha196, Aes256CtsHmacSha196, Des3CbcSha1Kd, Aes128CtsHmacSha256128, Aes256CtsHmacSha384192}
use Rattle.krb_crypto.specs.Suites.{cipher_key_size, cipher_seed_bits, cipher_seed_size}
use Rattle.krb_crypto.proofs.SealedTexts.{seed_key_bytes, seed_key_sized}
use Rattle.krb_crypto.specs.Agreement.{numbered_digests, seed_octets_of}
use Rattle.krb_crypto.specs.AgreedKeys.{agreed_key}

digest_bytes-length : (h : List ℕ) (n : ℕ) → length (digest_bytes h n) ≡ 4 * n
unfolding digest_bytes
digest_bytes-length h zero = refl
digest_bytes-length h (suc n) = omega (arith, length-append (digest_bytes h n) (to_be_bytes w32 (slice_index h n)), digest_bytes-length h n)

sha1-length : (m : List ℕ) → length (sha1 m) ≡ 20
unfolding sha1
sha1-length m = digest_bytes-length _ 5

digests-length : (x : List ℕ) (n : ℕ) → length (numbered_digests x n) ≡ 20 * n
unfolding numbered_digests
digests-length x zero = refl
digests-length x (suc n) = omega (arith, length-append (numbered_digests x n) (sha1 (n ∷ x)), sha1-length (n ∷ x), digests-length x n)

octets-length : (len : ℕ) (x : List ℕ) → length (seed_octets_of len x) ≡ len
unfolding seed_octets_of
octets-length len x = length-take-le len (numbered_digests x (div_ceil len 20)) (omega (arith, digests-length x (div_ceil len 20)))

seed_bytes : (suite : CipherSuite) → div_ceil (cipher_seed_bits suite) 8 ≡ cipher_seed_size suite
seed_bytes Aes128CtsHmacSha196 = refl
seed_bytes Aes256CtsHmacSha196 = refl
seed_bytes Des3CbcSha1Kd = refl
seed_bytes Aes128CtsHmacSha256128 = refl
seed_bytes Aes256CtsHmacSha384192 = refl

pub agreed_key-sized : (suite : CipherSuite) (secret : List ℕ) → length (agreed_key suite secret) ≡ cipher_key_size suite
agreed_key-sized suite secret =
    seed_key_sized suite (seed_octets_of (div_ceil (cipher_seed_bits suite) 8) secret)
    (omega (arith, octets-length (div_ceil (cipher_seed_bits suite) 8) secret, seed_bytes suite))

four_bytes : (x i : ℕ) → i < 4 → get_or (to_be_bytes w32 x) i 0 < 256
four_bytes x i below = grind (arith, below)

digest_bytes-bytes : (h : List ℕ) (n : ℕ) → IsBytes (digest_bytes h n)
unfolding digest_bytes
digest_bytes-bytes h zero = IsBytes-none
digest_bytes-bytes h (suc n) = IsBytes-append (digest_bytes h n) (to_be_bytes w32 (slice_index h n)) (digest_bytes-bytes h n) (IsBytes-from_below (to_be_bytes w32 (slice_index h n)) 4 refl (four_bytes (slice_index h n)))

digests-bytes : (x : List ℕ) (n : ℕ) → IsBytes (numbered_digests x n)
unfolding numbered_digests sha1
digests-bytes x zero = IsBytes-none
digests-bytes x (suc n) = IsBytes-append (numbered_digests x n) (sha1 (n ∷ x)) (digests-bytes x n) (digest_bytes-bytes _ 5)

pub agreed_key-bytes : (suite : CipherSuite) (secret : List ℕ) → IsBytes (agreed_key suite secret)
unfolding seed_octets_of
agreed_key-bytes suite secret =
    let size = div_ceil (cipher_seed_bits suite) 8 in
    seed_key_bytes suite (seed_octets_of size secret) (IsBytes-take size (numbered_digests secret (div_ceil size 20)) (digests-bytes secret (div_ceil size 20)))
