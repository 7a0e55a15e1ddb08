-- The suites of AES, by the size of their keys (RFC 3962).
use Rattle.std.specs.Prelude.{ℕ, List, take}
use Rattle.block_ciphers.specs.Aes.{aes_cipher}
use Rattle.block_ciphers.specs.AesSize.{key_length_of}
use Rattle.block_ciphers.specs.Chains.{IsStolen}
use Rattle.block_ciphers.specs.declared.aes.AesSize.{AesSize}
use Rattle.block_ciphers.specs.declared.error.KerberosCryptoError.{KerberosCryptoError}
use Rattle.encryption_profiles.specs.Hmac.{hmac_sha1_of}
use Rattle.encryption_profiles.specs.Profile.{Profile}
use Rattle.encryption_profiles.specs.Sealing.{IsRefusalInOrder}
use Rattle.encryption_profiles.specs.AesDerivation.{aes_derived_key_of, aes_password_key_of}

-- The checksum is the first 12 octets of HMAC-SHA1 (RFC 3962, section 6). Test: `seal 17`, `seal 18`.
abbrev pub aes_tag_of : List ℕ → List ℕ → List ℕ
aes_tag_of key text = take 12 (hmac_sha1_of key text)

-- Decryption by AES refuses fewer than 28 bytes (CipherLength), then another length of the key (KeyLength), then the checksum
-- (IntegrityCheck). Test: `short_message` of `refusals.rt`.
abbrev pub IsAesRefusal : ℕ → ℕ → ℕ → KerberosCryptoError → Type 0
IsAesRefusal size = IsRefusalInOrder size 28

-- ciphertext stealing, with the checksum over the text (RFC 3962, sections 5 and 6)
abbrev pub aes_profile : AesSize → Profile
aes_profile size = record {
  key_size = key_length_of size;
  check_size = key_length_of size;
  seed_size = key_length_of size;
  confounder_size = 16;
  tag_size = 12;
  seed_key = λ seed. seed;
  password_key = aes_password_key_of (key_length_of size);
  derived_key = λ _. aes_derived_key_of;
  filled = λ text. text;
  encrypts = λ key. IsStolen 16 (aes_cipher key);
  covered = λ text cipher. text;
  tag = aes_tag_of;
  refuses_password = λ password salt. ⊥;
  refuses = IsAesRefusal (key_length_of size);
}
