-- The suite of triple DES (RFC 3961, section 6.3).
use Rattle.std.specs.Prelude.{◌≡◌, ◌≢◌, ◌⊎◌, ℕ, ◌+◌, ◌-◌, ◌%◌, ◌<◌, ◌≤◌, List, length}
use Rattle.block_ciphers.specs.Chains.{IsChained, zero_filled}
use Rattle.block_ciphers.specs.declared.error.KerberosCryptoError.{KerberosCryptoError}
use Rattle.block_ciphers.specs.declared.error.KerberosCryptoError.TheVariants.{CipherLength, CipherUnpad, IntegrityCheck, KeyLength, Memory}
use Rattle.encryption_profiles.specs.Hmac.{hmac_sha1_of}
use Rattle.block_ciphers.specs.Des.{triple_des_cipher}
use Rattle.block_ciphers.specs.Seeds.{random_to_key}
use Rattle.block_ciphers.specs.declared.des3.TheConstants.{DES3_KEY_SIZE}
use Rattle.encryption_profiles.specs.Profile.{Profile}
use Rattle.encryption_profiles.specs.Des3Derivation.{des3_derived_key_of, des3_password_key_of}

-- a key of 24 bytes, and whole blocks, of which the first is the confounder, followed by a checksum of 20 bytes
abbrev pub HasDes3Lengths : ℕ → ℕ → Type 0
HasDes3Lengths key_bytes bytes = (key_bytes ≡ DES3_KEY_SIZE) × (28 ≤ bytes) × ((bytes - 20) % 8 ≡ 0)

-- Decryption by triple DES refuses another length of the key (KeyLength), then fewer than 28 bytes (CipherLength), then a ciphertext
-- that isn't whole blocks (CipherUnpad), then the checksum (IntegrityCheck). Test: `triple_des` of `refusals.rt`.
pub record IsDes3Refusal (key_bytes bytes : ℕ) (e : KerberosCryptoError) : Type 0 where
  pub keyed : key_bytes ≢ DES3_KEY_SIZE → e ≡ KeyLength key_bytes DES3_KEY_SIZE
  pub short : key_bytes ≡ DES3_KEY_SIZE → bytes < 28 → e ≡ CipherLength bytes 28
  pub ragged : key_bytes ≡ DES3_KEY_SIZE → 28 ≤ bytes → (bytes - 20) % 8 ≢ 0 → e ≡ CipherUnpad
  pub judged : HasDes3Lengths key_bytes bytes → (e ≡ Memory) ⊎ (e ≡ IntegrityCheck)

-- Encryption by triple DES is CBC with an initial vector of zeros, over the text and fewer than eight zeros up to whole blocks (RFC 3961,
-- section 6.3). Test: `des3` of `standards.txt`.
-- The checksum of triple DES is HMAC-SHA1, 20 octets, over confounder, plaintext and padding (RFC 3961, section 6.3). Test: `seal 16` of
-- `sealing_des3.txt`.
abbrev pub des3_profile : Profile
des3_profile = record {
  key_size = DES3_KEY_SIZE;
  check_size = DES3_KEY_SIZE;
  seed_size = 21;
  confounder_size = 8;
  tag_size = 20;
  seed_key = random_to_key;
  password_key = des3_password_key_of;
  derived_key = λ _. des3_derived_key_of;
  filled = zero_filled 8;
  encrypts = λ key. IsChained 8 (triple_des_cipher key);
  covered = λ text cipher. text;
  tag = hmac_sha1_of;
  -- String-to-key of triple DES: a password and a salt that are both empty have no key (KeyLength). Test: `empty_password` of
  -- `refusals.rt`.
  refuses_password = λ password salt. length password + length salt ≡ 0;
  refuses = IsDes3Refusal;
}
