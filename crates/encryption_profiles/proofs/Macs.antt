-- The lengths of HMACs and derived keys, and that they are bytes.
use Rattle.std.proofs.Common.{◌≡◌, ◌+◌, ◌*◌, ◌/◌, ◌%◌, ◌^◌, ◌≤◌, ◌<◌, ◌∷◌, ◌++◌, ℕ, zero, suc, List, [], length, take, refl, arith}
use Rattle.std.proofs.lemmas.List.{length-take-le}
use Rattle.std.proofs.Math.Nat.{mod-lt}
use Rattle.std.specs.Int.{bytes_high_first, to_be_bytes, w32, w64}
use Rattle.std.specs.Prelude.{slice_index}
use Rattle.sha2.specs.Sha256.{sha256}
use Rattle.sha2.specs.Sha256 as S256
use Rattle.sha2.specs.Sha512.{sha384}
use Rattle.sha2.specs.Sha512 as S512
use Rattle.sha2.proofs.Facts256.{length-sha256}
use Rattle.sha2.proofs.Facts512.{length-sha384}
use Rattle.block_ciphers.specs.Aes.{IsAesKey}
use Rattle.block_ciphers.specs.AesSize.{key_length_of}
use Rattle.block_ciphers.specs.Bytes.{IsBytes}
use Rattle.block_ciphers.specs.declared.aes.AesSize.{AesSize}
use Rattle.block_ciphers.specs.declared.aes.AesSize.TheVariants.{Aes128, Aes256}
use Rattle.block_ciphers.proofs.States.{IsBytes-append, IsBytes-none, IsBytes-take}
use Rattle.encryption_profiles.specs.Hmac.{hmac_of}
use Rattle.encryption_profiles.specs.Kdf.{kdf_of}
use Rattle.encryption_profiles.specs.AesSha2Derivation.{hmac_sha2_of, hmac_size_of, sha2_derived_key_of, tag_size_of}
use Rattle.encryption_profiles.specs.AesSha2Suites.{sha2_tag_of}

-- the bytes of a number are bytes
bytes_high_first-bytes : (k n : ℕ) → IsBytes (bytes_high_first k n)
bytes_high_first-bytes zero n i = omega arith
bytes_high_first-bytes (suc zero) n zero = omega arith
bytes_high_first-bytes (suc (suc k)) n zero = omega arith
bytes_high_first-bytes (suc k) n (suc i) = bytes_high_first-bytes k n i

digest_bytes_256-bytes : (h : List ℕ) (n : ℕ) → IsBytes (S256.digest_bytes h n)
unfolding S256.digest_bytes
digest_bytes_256-bytes h zero = IsBytes-none
digest_bytes_256-bytes h (suc n) = IsBytes-append (S256.digest_bytes h n) (to_be_bytes w32 (slice_index h n)) (digest_bytes_256-bytes h n) (bytes_high_first-bytes 4 (slice_index h n))

digest_bytes_512-bytes : (h : List ℕ) (n : ℕ) → IsBytes (S512.digest_bytes h n)
unfolding S512.digest_bytes
digest_bytes_512-bytes h zero = IsBytes-none
digest_bytes_512-bytes h (suc n) = IsBytes-append (S512.digest_bytes h n) (to_be_bytes w64 (slice_index h n)) (digest_bytes_512-bytes h n) (bytes_high_first-bytes 8 (slice_index h n))

sha256-bytes : (m : List ℕ) → IsBytes (sha256 m)
unfolding sha256
sha256-bytes m = digest_bytes_256-bytes _ 8

sha384-bytes : (m : List ℕ) → IsBytes (sha384 m)
unfolding sha384
sha384-bytes m = IsBytes-take 48 (S512.digest_bytes _ 8) (digest_bytes_512-bytes _ 8)

pub length-hmac_sha2_of : (size : AesSize) (key message : List ℕ) → length (hmac_sha2_of size key message) ≡ hmac_size_of size
unfolding hmac_sha2_of hmac_of
length-hmac_sha2_of Aes128 key message = length-sha256 _
length-hmac_sha2_of Aes256 key message = length-sha384 _

hmac_sha2_of-bytes : (size : AesSize) (key message : List ℕ) → IsBytes (hmac_sha2_of size key message)
unfolding hmac_sha2_of hmac_of
hmac_sha2_of-bytes Aes128 key message = sha256-bytes _
hmac_sha2_of-bytes Aes256 key message = sha384-bytes _

pub length-sha2_tag_of : (size : AesSize) (key text : List ℕ) → length (sha2_tag_of size key text) ≡ tag_size_of size
length-sha2_tag_of Aes128 key text = length-take-le 16 (hmac_sha2_of Aes128 key text) (omega (arith, length-hmac_sha2_of Aes128 key text))
length-sha2_tag_of Aes256 key text = length-take-le 24 (hmac_sha2_of Aes256 key text) (omega (arith, length-hmac_sha2_of Aes256 key text))

cut_to : (n m : ℕ) (xs : List ℕ) → length xs ≡ m → n ≤ m → length (take n xs) ≡ n
cut_to n m xs sized small = length-take-le n xs (omega (arith, sized, small))

-- a key that encrypts is one of AES
pub derived_key-sized : (size : AesSize) (key label : List ℕ) → length (sha2_derived_key_of size (key_length_of size) key label) ≡ key_length_of size
unfolding kdf_of
derived_key-sized Aes128 key label = cut_to 16 32 _ (length-hmac_sha2_of Aes128 key _) (omega arith)
derived_key-sized Aes256 key label = cut_to 32 48 _ (length-hmac_sha2_of Aes256 key _) (omega arith)

pub derived_key-bytes : (size : AesSize) (n : ℕ) (key label : List ℕ) → IsBytes (sha2_derived_key_of size n key label)
unfolding kdf_of
derived_key-bytes size n key label = IsBytes-take n (hmac_sha2_of size key _) (hmac_sha2_of-bytes size key _)
