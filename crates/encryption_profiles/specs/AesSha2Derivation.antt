-- The HMAC of AES with SHA-2, and the keys that it derives from keys and from passwords (RFC 8009, sections 3 to 5).
use Rattle.std.specs.Prelude.{ℕ, List, ◌∷◌, ◌++◌, codes}
use Rattle.sha2.specs.Sha256.{sha256}
use Rattle.sha2.specs.Sha512.{sha384}
use Rattle.block_ciphers.specs.AesSize.{key_length_of}
use Rattle.block_ciphers.specs.declared.aes.AesSize.{AesSize}
use Rattle.block_ciphers.specs.declared.aes.AesSize.TheVariants.{Aes128, Aes256}
use Rattle.encryption_profiles.specs.Hmac.{hmac_of}
use Rattle.encryption_profiles.specs.Pbkdf2.{pbkdf2_of}
use Rattle.encryption_profiles.specs.Kdf.{kdf_of}
use Rattle.encryption_profiles.specs.declared.aes_sha2.derivation.TheConstants.{AES_SHA2_ITERATIONS}

-- HMAC-SHA-256 with keys of 128 bits, HMAC-SHA-384 with keys of 256 bits (RFC 8009, section 5)
unfoldable pub hmac_sha2_of : AesSize → List ℕ → List ℕ → List ℕ
hmac_sha2_of Aes128 = hmac_of sha256 64
hmac_sha2_of Aes256 = hmac_of sha384 128

-- the bytes of a digest
abbrev pub hmac_size_of : AesSize → ℕ
hmac_size_of Aes128 = 32
hmac_size_of Aes256 = 48

-- A checksum, Ki and Kc have half of the digest's octets: 16 or 24 (RFC 8009, sections 3 and 5). Test: `derive 19`, `derive 20`,
-- `checksum 19`, `checksum 20`.
abbrev pub tag_size_of : AesSize → ℕ
tag_size_of Aes128 = 16
tag_size_of Aes256 = 24

-- the name of the suite (RFC 8009, section 4)
abbrev pub name_of : AesSize → List ℕ
name_of Aes128 = codes "aes128-cts-hmac-sha256-128"
name_of Aes256 = codes "aes256-cts-hmac-sha384-192"

-- the key of so many bytes of a key and a label (RFC 8009, section 3)
abbrev pub sha2_derived_key_of : AesSize → ℕ → List ℕ → List ℕ → List ℕ
sha2_derived_key_of aes size key label = kdf_of (hmac_sha2_of aes) key label size

-- String-to-key is PBKDF2 with 32,768 iterations over the suite's name, a zero byte and the salt, then KDF-HMAC-SHA2 with
-- "kerberos" (RFC 8009, section 4). Test: `key 19`, `key 20`.
unfoldable pub sha2_password_key_of : AesSize → List ℕ → List ℕ → List ℕ
sha2_password_key_of aes password salt =
    sha2_derived_key_of aes (key_length_of aes)
    (pbkdf2_of (hmac_sha2_of aes) (hmac_size_of aes) password (name_of aes ++ 0 ∷ salt) AES_SHA2_ITERATIONS (key_length_of aes)) (codes "kerberos")
