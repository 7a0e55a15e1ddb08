-- Keys of AES that are derived from keys and from passwords (RFC 3961, section 5.1; RFC 3962).
use Rattle.std.specs.Prelude.{ℕ, List, length, codes}
use Rattle.block_ciphers.specs.Aes.{aes_cipher}
use Rattle.encryption_profiles.specs.Pbkdf2.{pbkdf2_hmac_sha1_of}
use Rattle.encryption_profiles.specs.Derivation.{derived_octets_of}
use Rattle.encryption_profiles.specs.declared.aes.derivation.TheConstants.{AES_ITERATIONS}

-- DK for AES, whose seed has the key's length, and whose random-to-key is the identity (RFC 3962, section 6)
unfoldable pub aes_derived_key_of : List ℕ → List ℕ → List ℕ
aes_derived_key_of key constant = derived_octets_of (aes_cipher key) 16 (length key) constant

-- String-to-key is PBKDF2 with 4,096 iterations, then DK with "kerberos". Other s2kparams aren't used (RFC 3962, section 4). Test:
-- `key 17`, `key 18` of `sealing_aes.txt`.
unfoldable pub aes_password_key_of : ℕ → List ℕ → List ℕ → List ℕ
aes_password_key_of size password salt =
    aes_derived_key_of (pbkdf2_hmac_sha1_of password salt AES_ITERATIONS size) (codes "kerberos")
