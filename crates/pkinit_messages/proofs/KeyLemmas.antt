-- A derived key is a key of its suite.
use Rattle.std.proofs.Common.{◌≡◌, ◌<◌, ◌≤◌, ℕ, zero, suc, ◌*◌, ◌+◌, List, ◌++◌, length, slice_index, get_or, refl, sym, subst, ◌∙◌, mul-suc, mul-zero, arith, lit<}
use Rattle.std.proofs.lemmas.List.{length-append, length-take-le}
use Rattle.std.specs.Int.{div_ceil, to_be_bytes, w32, w64}
use Rattle.sha1.specs.Sha1.{sha1}
use Rattle.sha1.specs.Sha1 as S1
use Rattle.sha2.specs.Sha256.{sha256}
use Rattle.sha2.specs.Sha256 as S256
use Rattle.sha2.specs.Sha512.{sha512}
use Rattle.sha2.specs.Sha512 as S512
use Rattle.sha2.proofs.Facts256.{length-sha256}
use Rattle.sha2.proofs.Facts512.{length-sha512}
use Rattle.block_ciphers.specs.Bytes.{IsBytes}
use Rattle.block_ciphers.proofs.States.{IsBytes-append, IsBytes-from_below, IsBytes-none, IsBytes-take}
use Rattle.encryption_profiles.proofs.Blocks.{enough_blocks}
use Rattle.krb_crypto.specs.Suites.{cipher_key_size, cipher_seed_bits, cipher_seed_size}
use Rattle.krb_crypto.specs.declared.suite.CipherSuite.{CipherSuite}
use Rattle.krb_crypto.specs.declared.suite.CipherSuite.TheVariants.{Aes128CtsHmacSha196, Aes256CtsHmacSha196, Des3CbcSha1Kd, Aes128CtsHmacSha256128, Aes256CtsHmacSha384192}
use Rattle.krb_crypto.proofs.SealedTexts.{seed_key_bytes, seed_key_sized}
use Rattle.pkinit_messages.specs.Contexts.{ContextRecord}
use Rattle.pkinit_messages.specs.DerivedKeys.{derived_key, derived_seed}
use Rattle.pkinit_messages.specs.Kdfs.{counted_digests, digest_size, hash_of, kdf_octets}
use Rattle.pkinit_messages.specs.OtherInfos.{other_info_bytes, other_info_of}
use Rattle.pkinit_messages.specs.declared.agility.kdf.Kdf.{Kdf}
use Rattle.pkinit_messages.specs.declared.agility.kdf.Kdf.TheVariants.{Sha1, Sha256, Sha512}

digest_bytes_1-length : (h : List ℕ) (n : ℕ) → length (S1.digest_bytes h n) ≡ 4 * n
unfolding S1.digest_bytes
digest_bytes_1-length h zero = refl
digest_bytes_1-length h (suc n) = omega (arith, length-append (S1.digest_bytes h n) (to_be_bytes w32 (slice_index h n)), digest_bytes_1-length h n)

length-sha1 : (m : List ℕ) → length (sha1 m) ≡ 20
unfolding sha1
length-sha1 m = digest_bytes_1-length _ 5

length-hash_of : (kdf : Kdf) (m : List ℕ) → length (hash_of kdf m) ≡ digest_size kdf
length-hash_of Sha1 m = length-sha1 m
length-hash_of Sha256 m = length-sha256 m
length-hash_of Sha512 m = length-sha512 m

some_octets : (kdf : Kdf) → 0 < digest_size kdf
some_octets Sha1 = lit< tt
some_octets Sha256 = lit< tt
some_octets Sha512 = lit< tt

-- n digests of `size` octets
length-counted : (hash : List ℕ → List ℕ) (size : ℕ) → ((m : List ℕ) → length (hash m) ≡ size) → (x : List ℕ) (n : ℕ) → length (counted_digests hash x n) ≡ size * n
unfolding counted_digests
length-counted hash size sized x zero = sym (mul-zero size)
length-counted hash size sized x (suc n) =
    let digest : List ℕ = hash (to_be_bytes w32 (suc n) ++ x) in
    let before : length (counted_digests hash x n) ≡ size * n = length-counted hash size sized x n in
    let last : length digest ≡ size = sized (to_be_bytes w32 (suc n) ++ x) in
    let both : length (counted_digests hash x n ++ digest) ≡ length (counted_digests hash x n) + length digest = length-append (counted_digests hash x n) digest in
    omega (arith, before, last, both, mul-suc size n)

length-kdf_octets : (kdf : Kdf) (len : ℕ) (x : List ℕ) → length (kdf_octets kdf len x) ≡ len
unfolding kdf_octets
length-kdf_octets kdf len x =
    let count : ℕ = div_ceil len (digest_size kdf) in
    let enough : len ≤ digest_size kdf * count = enough_blocks len (digest_size kdf) (some_octets kdf) in
    let sized : length (counted_digests (hash_of kdf) x count) ≡ digest_size kdf * count = length-counted (hash_of kdf) (digest_size kdf) (length-hash_of kdf) x count in
    length-take-le len (counted_digests (hash_of kdf) x count) (subst (λ (n : ℕ). len ≤ n) (sym sized) enough)

seed_octets : (suite : CipherSuite) → div_ceil (cipher_seed_bits suite) 8 ≡ cipher_seed_size suite
seed_octets Aes128CtsHmacSha196 = refl
seed_octets Aes256CtsHmacSha196 = refl
seed_octets Des3CbcSha1Kd = refl
seed_octets Aes128CtsHmacSha256128 = refl
seed_octets Aes256CtsHmacSha384192 = refl

-- the octets that a key is made from are as many as the suite's seed has
pub derived_seed-sized : (suite : CipherSuite) (kdf : Kdf) (secret : List ℕ) (context : ContextRecord) → length (derived_seed suite kdf secret context) ≡ cipher_seed_size suite
unfolding derived_seed
derived_seed-sized suite kdf secret context =
    let octets : List ℕ = secret ++ other_info_bytes (other_info_of suite kdf context) in
    let size : ℕ = div_ceil (cipher_seed_bits suite) 8 in
    length-kdf_octets kdf size octets ∙ seed_octets suite

pub derived_key-sized : (suite : CipherSuite) (kdf : Kdf) (secret : List ℕ) (context : ContextRecord) → length (derived_key suite kdf secret context) ≡ cipher_key_size suite
derived_key-sized suite kdf secret context = seed_key_sized suite (derived_seed suite kdf secret context) (derived_seed-sized suite kdf secret context)

-- the bytes of a word are bytes
four_bytes : (x i : ℕ) → i < 4 → get_or (to_be_bytes w32 x) i 0 < 256
four_bytes x i below = grind (arith, below)

eight_bytes : (x i : ℕ) → i < 8 → get_or (to_be_bytes w64 x) i 0 < 256
eight_bytes x i below = grind (arith, below)

word_bytes : (x : ℕ) → IsBytes (to_be_bytes w32 x)
word_bytes x = IsBytes-from_below (to_be_bytes w32 x) 4 refl (four_bytes x)

double_word_bytes : (x : ℕ) → IsBytes (to_be_bytes w64 x)
double_word_bytes x = IsBytes-from_below (to_be_bytes w64 x) 8 refl (eight_bytes x)

digest_bytes_1-bytes : (h : List ℕ) (n : ℕ) → IsBytes (S1.digest_bytes h n)
unfolding S1.digest_bytes
digest_bytes_1-bytes h zero = IsBytes-none
digest_bytes_1-bytes h (suc n) = IsBytes-append (S1.digest_bytes h n) (to_be_bytes w32 (slice_index h n)) (digest_bytes_1-bytes h n) (word_bytes (slice_index h n))

digest_bytes_256-bytes : (h : List ℕ) (n : ℕ) → IsBytes (S256.digest_bytes h n)
unfolding S256.digest_bytes
digest_bytes_256-bytes h zero = IsBytes-none
digest_bytes_256-bytes h (suc n) = IsBytes-append (S256.digest_bytes h n) (to_be_bytes w32 (slice_index h n)) (digest_bytes_256-bytes h n) (word_bytes (slice_index h n))

digest_bytes_512-bytes : (h : List ℕ) (n : ℕ) → IsBytes (S512.digest_bytes h n)
unfolding S512.digest_bytes
digest_bytes_512-bytes h zero = IsBytes-none
digest_bytes_512-bytes h (suc n) = IsBytes-append (S512.digest_bytes h n) (to_be_bytes w64 (slice_index h n)) (digest_bytes_512-bytes h n) (double_word_bytes (slice_index h n))

sha1-bytes : (m : List ℕ) → IsBytes (sha1 m)
unfolding sha1
sha1-bytes m = digest_bytes_1-bytes _ 5

sha256-bytes : (m : List ℕ) → IsBytes (sha256 m)
unfolding sha256
sha256-bytes m = digest_bytes_256-bytes _ 8

sha512-bytes : (m : List ℕ) → IsBytes (sha512 m)
unfolding sha512
sha512-bytes m = digest_bytes_512-bytes _ 8

counted-bytes : (hash : List ℕ → List ℕ) → ((m : List ℕ) → IsBytes (hash m)) → (x : List ℕ) (n : ℕ) → IsBytes (counted_digests hash x n)
unfolding counted_digests
counted-bytes hash bytes x zero = IsBytes-none
counted-bytes hash bytes x (suc n) =
    IsBytes-append (counted_digests hash x n) (hash (to_be_bytes w32 (suc n) ++ x)) (counted-bytes hash bytes x n) (bytes (to_be_bytes w32 (suc n) ++ x))

hash_of-bytes : (kdf : Kdf) (m : List ℕ) → IsBytes (hash_of kdf m)
hash_of-bytes Sha1 m = sha1-bytes m
hash_of-bytes Sha256 m = sha256-bytes m
hash_of-bytes Sha512 m = sha512-bytes m

kdf_octets-bytes : (kdf : Kdf) (len : ℕ) (x : List ℕ) → IsBytes (kdf_octets kdf len x)
unfolding kdf_octets
kdf_octets-bytes kdf len x =
    let count : ℕ = div_ceil len (digest_size kdf) in
    IsBytes-take len (counted_digests (hash_of kdf) x count) (counted-bytes (hash_of kdf) (hash_of-bytes kdf) x count)

pub derived_key-bytes : (suite : CipherSuite) (kdf : Kdf) (secret : List ℕ) (context : ContextRecord) → IsBytes (derived_key suite kdf secret context)
unfolding derived_seed
derived_key-bytes suite kdf secret context =
    let octets : List ℕ = secret ++ other_info_bytes (other_info_of suite kdf context) in
    let size : ℕ = div_ceil (cipher_seed_bits suite) 8 in
    seed_key_bytes suite (kdf_octets kdf size octets) (kdf_octets-bytes kdf size octets)
