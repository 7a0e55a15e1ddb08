-- The parameters by which a suite makes a key of a password (RFC 3962, section 4; RFC 8009, section 4; RFC 3961, section 6.3).
use Rattle.std.specs.Prelude.{◌≡◌, ◌==◌, ℕ, Bool, true, [], ◌∷◌, ◌++◌, Option, None, Some, codes, length, refl}
use Rattle.std.specs.Cmp.Lexicographic.{pointwise}
use Rattle.std.specs.Bool.{nat_eq}
use Rattle.std.specs.Int.{to_be_bytes, w32}
use Rattle.std.specs.Option.{option_map_or}
use Rattle.block_ciphers.specs.AesSize.{key_length_of}
use Rattle.block_ciphers.specs.declared.aes.AesSize.{AesSize}
use Rattle.encryption_profiles.specs.Pbkdf2.{pbkdf2_hmac_sha1_of, pbkdf2_of}
use Rattle.encryption_profiles.specs.AesDerivation.{aes_derived_key_of, aes_password_key_of}
use Rattle.encryption_profiles.specs.declared.aes.derivation.TheConstants.{AES_ITERATIONS}
use Rattle.encryption_profiles.specs.AesSha2Derivation.{hmac_sha2_of, hmac_size_of, name_of, sha2_derived_key_of, sha2_password_key_of}
use Rattle.encryption_profiles.specs.declared.aes_sha2.derivation.TheConstants.{AES_SHA2_ITERATIONS}
use Rattle.picky_asn1.specs.Bytes.{Bytes}
use Rattle.krb_crypto.specs.declared.suite.CipherSuite.{CipherSuite}
use Rattle.krb_crypto.specs.declared.suite.CipherSuite.TheVariants.{Aes128CtsHmacSha196, Aes256CtsHmacSha196, Des3CbcSha1Kd, Aes128CtsHmacSha256128, Aes256CtsHmacSha384192}
use Rattle.krb_messages.specs.declared.data_types.etype_info2.EtypeInfo2Entry.{EtypeInfo2Entry}

-- The iteration count by which the suite makes a key of a password: 4096 of AES, and 32768 of AES with SHA-2. Triple DES has none.
abbrev pub iterations : CipherSuite → Option ℕ
iterations Aes128CtsHmacSha196 = Some AES_ITERATIONS
iterations Aes256CtsHmacSha196 = Some AES_ITERATIONS
iterations Des3CbcSha1Kd = None
iterations Aes128CtsHmacSha256128 = Some AES_SHA2_ITERATIONS
iterations Aes256CtsHmacSha384192 = Some AES_SHA2_ITERATIONS

-- The octets are the suite's own parameters: its iteration count, big-endian in four octets, or nothing where it has none.
abbrev pub are_parameters : CipherSuite → Bytes → Bool
are_parameters suite octets = option_map_or (λ count. pointwise nat_eq octets (to_be_bytes w32 count)) (iterations suite) (length octets == 0)

-- The entry has no s2kparams, or the suite's own.
abbrev pub has_own_parameters : CipherSuite → EtypeInfo2Entry → Bool
has_own_parameters suite entry = option_map_or (λ parameters. are_parameters suite parameters.0) entry.s2kparams.0 true

-- worked: the parameters of AES, and of AES with SHA-2
aes_parameters : are_parameters Aes256CtsHmacSha196 (0 ∷ 0 ∷ 16 ∷ 0 ∷ []) ≡ true
aes_parameters = refl

aes_sha2_parameters : are_parameters Aes128CtsHmacSha256128 (0 ∷ 0 ∷ 128 ∷ 0 ∷ []) ≡ true
aes_sha2_parameters = refl

-- The counts are those by which the suites' keys are made.
aes_count : (size : ℕ) (password salt : Bytes) → aes_password_key_of size password salt ≡ aes_derived_key_of (pbkdf2_hmac_sha1_of password salt AES_ITERATIONS size) (codes "kerberos")
unfolding aes_password_key_of
aes_count size password salt = refl

aes_sha2_count : (aes : AesSize) (password salt : Bytes) → sha2_password_key_of aes password salt
    ≡ sha2_derived_key_of aes (key_length_of aes) (pbkdf2_of (hmac_sha2_of aes) (hmac_size_of aes) password (name_of aes ++ 0 ∷ salt) AES_SHA2_ITERATIONS (key_length_of aes)) (codes "kerberos")
unfolding sha2_password_key_of
aes_sha2_count aes password salt = refl
