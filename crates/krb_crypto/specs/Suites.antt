-- The suites, their numbers and sizes.
use Rattle.std.specs.Prelude.{◌≡◌, ◌≢◌, ℕ, ◌*◌, List, [], ◌∷◌, length, Result, MatchResult}
use Rattle.block_ciphers.specs.declared.aes.AesSize.TheVariants.{Aes128, Aes256}
use Rattle.block_ciphers.specs.declared.error.KerberosCryptoError.{KerberosCryptoError}
use Rattle.block_ciphers.specs.declared.error.KerberosCryptoError.TheVariants.{AlgorithmIdentifier, AlgorithmIdentifierData}
use Rattle.encryption_profiles.specs.Profile.{Profile}
use Rattle.encryption_profiles.specs.AesSuites.{aes_profile}
use Rattle.encryption_profiles.specs.AesSha2Suites.{aes_sha2_profile}
use Rattle.encryption_profiles.specs.Suite.{des3_profile}
use Rattle.krb_constants.specs.declared.etypes.TheConstants.{AES128_CTS_HMAC_SHA1_96, AES128_CTS_HMAC_SHA256_128, AES256_CTS_HMAC_SHA1_96, AES256_CTS_HMAC_SHA384_192, DES3_CBC_SHA1_KD}
use Rattle.krb_constants.specs.declared.cksum_types.TheConstants.{HMAC_SHA1_96_AES128, HMAC_SHA1_96_AES256, HMAC_SHA1_DES3_KD, HMAC_SHA256_128_AES128, HMAC_SHA384_192_AES256}
use Rattle.krb_crypto.specs.declared.family.Family.{Family}
use Rattle.krb_crypto.specs.declared.family.Family.TheVariants.{Aes, TripleDes, AesSha2}
use Rattle.krb_crypto.specs.declared.suite.CipherSuite.{CipherSuite}
use Rattle.krb_crypto.specs.declared.suite.CipherSuite.TheVariants.{Aes128CtsHmacSha196, Aes256CtsHmacSha196, Des3CbcSha1Kd, Aes128CtsHmacSha256128, Aes256CtsHmacSha384192}
use Rattle.krb_crypto.specs.declared.suite.ChecksumSuite.{ChecksumSuite}
use Rattle.krb_crypto.specs.declared.suite.ChecksumSuite.TheVariants.{HmacSha196Aes128, HmacSha196Aes256, HmacSha1Des3Kd, HmacSha256128Aes128, HmacSha384192Aes256}

-- the family of a suite, and the size of its keys (RFC 3962, section 7; RFC 3961, section 6.3; RFC 8009, section 5)
abbrev pub cipher_family : CipherSuite → Family
cipher_family Aes128CtsHmacSha196 = Aes Aes128
cipher_family Aes256CtsHmacSha196 = Aes Aes256
cipher_family Des3CbcSha1Kd = TripleDes
cipher_family Aes128CtsHmacSha256128 = AesSha2 Aes128
cipher_family Aes256CtsHmacSha384192 = AesSha2 Aes256

-- the profile that distinguishes a suite from the others: all definitions of sealing are in terms of it
abbrev pub family_profile : Family → Profile
family_profile (Aes size) = aes_profile size
family_profile TripleDes = des3_profile
family_profile (AesSha2 size) = aes_sha2_profile size

abbrev pub cipher_profile : CipherSuite → Profile
cipher_profile suite = family_profile (cipher_family suite)

-- all suites
abbrev pub cipher_suites : List CipherSuite
cipher_suites = Aes128CtsHmacSha196 ∷ Aes256CtsHmacSha196 ∷ Des3CbcSha1Kd ∷ Aes128CtsHmacSha256128 ∷ Aes256CtsHmacSha384192 ∷ []

-- The etypes of AES are 17 and 18 (RFC 3962, section 7). Test: `seal 17`, `seal 18` of `sealing_aes.txt`.
-- The etypes of AES with SHA-2 are 19 and 20 (RFC 8009, section 7). Test: `numbers` of `aes_sha2.rt`.
-- The etype of triple DES is 16 (RFC 3961, section 8). Test: `numbers` of `des.rt`.
abbrev pub cipher_number : CipherSuite → ℕ
cipher_number Aes128CtsHmacSha196 = AES128_CTS_HMAC_SHA1_96
cipher_number Aes256CtsHmacSha196 = AES256_CTS_HMAC_SHA1_96
cipher_number Des3CbcSha1Kd = DES3_CBC_SHA1_KD
cipher_number Aes128CtsHmacSha256128 = AES128_CTS_HMAC_SHA256_128
cipher_number Aes256CtsHmacSha384192 = AES256_CTS_HMAC_SHA384_192

-- how many bytes a suite's key has
abbrev pub cipher_key_size : CipherSuite → ℕ
cipher_key_size suite = (cipher_profile suite).key_size

-- how many bytes a suite's key is made from
abbrev pub cipher_seed_size : CipherSuite → ℕ
cipher_seed_size suite = (cipher_profile suite).seed_size

-- how many bits a suite's key is made from
abbrev pub cipher_seed_bits : CipherSuite → ℕ
cipher_seed_bits suite = 8 * cipher_seed_size suite

-- how many bytes a suite's confounder has: a block (RFC 3961, section 5.3)
abbrev pub cipher_confounder_size : CipherSuite → ℕ
cipher_confounder_size suite = (cipher_profile suite).confounder_size

-- how many bytes the checksum after a ciphertext has
abbrev pub cipher_tag_size : CipherSuite → ℕ
cipher_tag_size suite = (cipher_profile suite).tag_size

-- the suite of a checksum's keys (RFC 3962, section 7; RFC 3961, section 6.3; RFC 8009, section 6)
abbrev pub checksum_cipher : ChecksumSuite → CipherSuite
checksum_cipher HmacSha196Aes128 = Aes128CtsHmacSha196
checksum_cipher HmacSha196Aes256 = Aes256CtsHmacSha196
checksum_cipher HmacSha1Des3Kd = Des3CbcSha1Kd
checksum_cipher HmacSha256128Aes128 = Aes128CtsHmacSha256128
checksum_cipher HmacSha384192Aes256 = Aes256CtsHmacSha384192

-- all checksums
abbrev pub checksum_suites : List ChecksumSuite
checksum_suites = HmacSha196Aes128 ∷ HmacSha196Aes256 ∷ HmacSha1Des3Kd ∷ HmacSha256128Aes128 ∷ HmacSha384192Aes256 ∷ []

-- The cksumtypes of AES are 15 and 16 (RFC 3962, section 7). Test: `numbers` of `suites.rt`.
-- The cksumtypes of AES with SHA-2 are 19 and 20 (RFC 8009, section 7). Test: `numbers` of `aes_sha2.rt`.
-- The cksumtype of triple DES is 12 (RFC 3961, section 8). Test: `numbers` of `des.rt`.
abbrev pub checksum_number : ChecksumSuite → ℕ
checksum_number HmacSha196Aes128 = HMAC_SHA1_96_AES128
checksum_number HmacSha196Aes256 = HMAC_SHA1_96_AES256
checksum_number HmacSha1Des3Kd = HMAC_SHA1_DES3_KD
checksum_number HmacSha256128Aes128 = HMAC_SHA256_128_AES128
checksum_number HmacSha384192Aes256 = HMAC_SHA384_192_AES256

-- the checksum that belongs to a suite (RFC 3962, section 7; RFC 3961, section 6.3; RFC 8009, section 6)
abbrev pub cipher_checksum : CipherSuite → ChecksumSuite
cipher_checksum Aes128CtsHmacSha196 = HmacSha196Aes128
cipher_checksum Aes256CtsHmacSha196 = HmacSha196Aes256
cipher_checksum Des3CbcSha1Kd = HmacSha1Des3Kd
cipher_checksum Aes128CtsHmacSha256128 = HmacSha256128Aes128
cipher_checksum Aes256CtsHmacSha384192 = HmacSha384192Aes256

-- how many bytes a checksum's key has
abbrev pub checksum_key_size : ChecksumSuite → ℕ
checksum_key_size suite = cipher_key_size (checksum_cipher suite)

-- the suite that has a number, or the refusal of a number that none has
abbrev pub IsCipherOf : ℕ → Result CipherSuite KerberosCryptoError → Type 0
IsCipherOf number r = MatchResult r (λ suite. cipher_number suite ≡ number)
    (λ e. (e ≡ AlgorithmIdentifier number) × ((suite : CipherSuite) → cipher_number suite ≢ number))

-- the suite whose number is one byte, or the refusal of bytes that aren't a suite's number
abbrev pub IsCipherOfByte : List ℕ → Result CipherSuite KerberosCryptoError → Type 0
IsCipherOfByte bytes r = MatchResult r (λ suite. bytes ≡ cipher_number suite ∷ [])
    (λ e. (e ≡ AlgorithmIdentifierData (length bytes)) × ((suite : CipherSuite) → bytes ≢ cipher_number suite ∷ []))

-- the checksum that has a number, or the refusal of a number that none has
abbrev pub IsChecksumOf : ℕ → Result ChecksumSuite KerberosCryptoError → Type 0
IsChecksumOf number r = MatchResult r (λ suite. checksum_number suite ≡ number)
    (λ e. (e ≡ AlgorithmIdentifier number) × ((suite : ChecksumSuite) → checksum_number suite ≢ number))
