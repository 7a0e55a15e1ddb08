-- The suites of AES with SHA-2, by the size of their keys (RFC 8009).
use Rattle.std.specs.Prelude.{ℕ, ◌+◌, List, ◌++◌, take, replicate}
use Rattle.block_ciphers.specs.Aes.{aes_cipher}
use Rattle.block_ciphers.specs.AesSize.{key_length_of}
use Rattle.block_ciphers.specs.Chains.{IsStolen}
use Rattle.block_ciphers.specs.declared.aes.AesSize.{AesSize}
use Rattle.block_ciphers.specs.declared.error.KerberosCryptoError.{KerberosCryptoError}
use Rattle.encryption_profiles.specs.Profile.{Profile}
use Rattle.encryption_profiles.specs.Sealing.{IsRefusalInOrder}
use Rattle.encryption_profiles.specs.AesSha2Derivation.{hmac_sha2_of, sha2_derived_key_of, sha2_password_key_of, tag_size_of}

-- The checksum is the HMAC, cut to 16 or 24 octets, also of a text that isn't encrypted with it (RFC 8009, sections 5 and 6). Test:
-- `seal 19`, `seal 20`, `checksum 19`, `checksum 20`.
abbrev pub sha2_tag_of : AesSize → List ℕ → List ℕ → List ℕ
sha2_tag_of size key text = take (tag_size_of size) (hmac_sha2_of size key text)

-- Decryption by AES with SHA-2 refuses fewer bytes than a confounder and a checksum (CipherLength), then another length of the key
-- (KeyLength), then the checksum (IntegrityCheck). Test: `too_short` of `aes_sha2.rt`.
abbrev pub IsSha2Refusal : ℕ → ℕ → ℕ → ℕ → KerberosCryptoError → Type 0
IsSha2Refusal = IsRefusalInOrder

-- the least that can be opened
abbrev pub least_of : AesSize → ℕ
least_of size = 16 + tag_size_of size

-- Encryption by AES with SHA-2 is ciphertext stealing. The checksum is over the initial vector of zeros and the ciphertext (RFC 8009,
-- section 5). Ke has as many octets as the key, 16 or 32. Test: `seal 19`, `seal 20`, `derive 19`, `derive 20`.
abbrev pub aes_sha2_profile : AesSize → Profile
aes_sha2_profile size = record {
  key_size = key_length_of size;
  check_size = tag_size_of size;
  seed_size = key_length_of size;
  confounder_size = 16;
  tag_size = tag_size_of size;
  seed_key = λ seed. seed;
  password_key = sha2_password_key_of size;
  derived_key = sha2_derived_key_of size;
  filled = λ text. text;
  encrypts = λ key. IsStolen 16 (aes_cipher key);
  covered = λ text cipher. replicate 16 0 ++ cipher;
  tag = sha2_tag_of size;
  refuses_password = λ password salt. ⊥;
  refuses = IsSha2Refusal (key_length_of size) (least_of size);
}
