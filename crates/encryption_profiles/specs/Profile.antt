-- What distinguishes one way to encrypt from another: an encryption algorithm profile (RFC 3961, section 3).
use Rattle.std.specs.Prelude.{ℕ, List}
use Rattle.block_ciphers.specs.declared.error.KerberosCryptoError.{KerberosCryptoError}
use Rattle.encryption_profiles.specs.Derivation.{usage_constant}

pub record Profile : Type 1 where
  -- the bytes of a key that is handed in or encrypts, of one that checks, of the seed that a key is made from, of a confounder,
  -- and of the checksum that follows the ciphertext
  pub key_size : ℕ
  pub check_size : ℕ
  pub seed_size : ℕ
  pub confounder_size : ℕ
  pub tag_size : ℕ
  -- the key of a seed, that of a password and a salt, and that of so many bytes which is derived from a key and a constant
  pub seed_key : List ℕ → List ℕ
  pub password_key : List ℕ → List ℕ → List ℕ
  pub derived_key : ℕ → List ℕ → List ℕ → List ℕ
  -- a text as it is encrypted: itself, or the text and its padding
  pub filled : List ℕ → List ℕ
  -- under the key, a text as it is encrypted, with its padding if the suite has any, becomes these bytes
  pub encrypts : List ℕ → List ℕ → List ℕ → Type 0
  -- what the checksum is over, by the text as it is encrypted and the bytes that it is encrypted to; and the checksum
  pub covered : List ℕ → List ℕ → List ℕ
  pub tag : List ℕ → List ℕ → List ℕ
  -- which passwords and salts have no key
  pub refuses_password : List ℕ → List ℕ → Type 0
  -- what opening refuses with, by the bytes of the key and of what is opened
  pub refuses : ℕ → ℕ → KerberosCryptoError → Type 0

-- The constant of Ke, which encrypts, ends with AA (RFC 3961, section 5.3). Test: `usages` of `digests.rt`.
abbrev pub ke_of : Profile → List ℕ → ℕ → List ℕ
ke_of profile key usage = profile.derived_key profile.key_size key (usage_constant usage 0xAA)

-- The constant of Ki, for the checksum of what is encrypted, ends with 55 (RFC 3961, section 5.3). Test: `usages` of `digests.rt`.
abbrev pub ki_of : Profile → List ℕ → ℕ → List ℕ
ki_of profile key usage = profile.derived_key profile.check_size key (usage_constant usage 0x55)

-- The constant of Kc, for the checksum of a text alone, ends with 99 (RFC 3961, section 5.4). Test: `usages` of `digests.rt`.
abbrev pub kc_of : Profile → List ℕ → ℕ → List ℕ
kc_of profile key usage = profile.derived_key profile.check_size key (usage_constant usage 0x99)
