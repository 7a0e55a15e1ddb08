-- Messages that are encrypted with a checksum, and checksums that stand alone, by a profile (RFC 3961, sections 3, 5.3 and 5.4).
use Rattle.std.specs.Prelude.{◌≡◌, ◌≢◌, ◌⊎◌, ℕ, ◌<◌, ◌≤◌, List, ◌++◌, length}
use Rattle.block_ciphers.specs.Bytes.{IsBytes}
use Rattle.block_ciphers.specs.declared.error.KerberosCryptoError.{KerberosCryptoError}
use Rattle.block_ciphers.specs.declared.error.KerberosCryptoError.TheVariants.{CipherLength, IntegrityCheck, KeyLength, Memory}
use Rattle.encryption_profiles.specs.Profile.{Profile, kc_of, ke_of, ki_of}

-- the text, padded and encrypted under Ke, without a checksum
abbrev pub IsEncryptedAs : Profile → List ℕ → ℕ → List ℕ → List ℕ → Type 0
IsEncryptedAs profile key usage text bytes = profile.encrypts (ke_of profile key usage) (profile.filled text) bytes

-- the checksum of what is encrypted, under Ki
abbrev pub encryption_tag_of : Profile → List ℕ → ℕ → List ℕ → List ℕ
encryption_tag_of profile key usage text = profile.tag (ki_of profile key usage) text

-- The checksum of AES of a text that isn't encrypted with it is under Kc (RFC 3961, section 5.4). Test: `checksum 17` of
-- `sealing_aes.txt`.
-- The checksum of triple DES of a text that isn't encrypted with it is under Kc (RFC 3961, section 5.4). Test: `checksum 16` of
-- `sealing_des3.txt`.
-- The checksum of AES with SHA-2 of a text that isn't encrypted with it is under Kc (RFC 8009, section 6). Test: `checksum 19` of
-- `sealing_sha2.txt`.
abbrev pub tag_alone_of : Profile → List ℕ → ℕ → List ℕ → List ℕ
tag_alone_of profile key usage text = profile.tag (kc_of profile key usage) text

-- AES encrypts confounder and plaintext under Ke. Behind them stands their checksum under Ki (RFC 3961, section 5.3). Test: `seal 17`,
-- `seal 18` of `sealing_aes.txt`.
-- Triple DES encrypts confounder, plaintext and padding under Ke. Behind them stands their checksum under Ki (RFC 3961, section 5.3).
-- Test: `seal 16` of `sealing_des3.txt`.
-- AES with SHA-2 encrypts confounder and plaintext under Ke. Behind them stands the checksum under Ki, over the initial vector and the
-- ciphertext (RFC 8009, section 5). Test: `seal 19`, `seal 20` of `sealing_sha2.txt`.
pub record IsSealedAs (profile : Profile) (key : List ℕ) (usage : ℕ) (conf plain bytes : List ℕ) : Type 0 where
  pub key_sized : length key ≡ profile.key_size
  pub key_bytes : IsBytes key
  pub conf_sized : length conf ≡ profile.confounder_size
  pub conf_bytes : IsBytes conf
  pub plain_bytes : IsBytes plain
  pub cipher : List ℕ
  pub encrypted : IsEncryptedAs profile key usage (conf ++ plain) cipher
  pub tagged : bytes ≡ cipher ++ encryption_tag_of profile key usage (profile.covered (profile.filled (conf ++ plain)) cipher)

-- Decryption compares the checksum before any text is returned (RFC 3961, section 5.3). Calls whose names end with no_checksum leave
-- this to the caller. Test: `triple_des` of `refusals.rt`.
-- Some confounder encrypts the decrypted text to these bytes. Any other choice that is encrypted to them has the same confounder, and the
-- same text up to padding (RFC 3961, section 5.3). Test: `seal 16` of `sealing_des3.txt`.
abbrev pub IsOpeningAs : Profile → List ℕ → ℕ → List ℕ → List ℕ → Type 0
IsOpeningAs profile key usage plain bytes =
    (conf : List ℕ) × IsSealedAs profile key usage conf plain bytes
    × ((c p : List ℕ) → IsSealedAs profile key usage c p bytes → (c ≡ conf) × (profile.filled p ≡ plain))

-- nothing is sealed to the bytes
abbrev pub IsNothingSealedAs : Profile → List ℕ → ℕ → List ℕ → Type 0
IsNothingSealedAs profile key usage bytes = (c p : List ℕ) → IsSealedAs profile key usage c p bytes → ⊥

-- opening refuses fewer than the least bytes (CipherLength), then another length of the key (KeyLength), then the checksum (IntegrityCheck)
pub record IsRefusalInOrder (size least key_bytes bytes : ℕ) (e : KerberosCryptoError) : Type 0 where
  pub short : bytes < least → e ≡ CipherLength bytes least
  pub keyed : least ≤ bytes → key_bytes ≢ size → e ≡ KeyLength key_bytes size
  pub judged : least ≤ bytes → key_bytes ≡ size → (e ≡ Memory) ⊎ (e ≡ IntegrityCheck)
