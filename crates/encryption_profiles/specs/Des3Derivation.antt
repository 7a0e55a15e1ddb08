-- Keys of triple DES that are derived from keys and from passwords (RFC 3961, sections 5.1 and 6.3.1).
use Rattle.std.specs.Prelude.{ℕ, List, ◌++◌, codes}
use Rattle.encryption_profiles.specs.NFold.{n_fold_of}
use Rattle.encryption_profiles.specs.Derivation.{derived_octets_of}
use Rattle.block_ciphers.specs.Des.{triple_des_cipher}
use Rattle.block_ciphers.specs.Seeds.{random_to_key}

-- DK: the key that is made of DR's 21 bytes, where triple DES enciphers blocks of eight
unfoldable pub des3_derived_key_of : List ℕ → List ℕ → List ℕ
des3_derived_key_of key constant = random_to_key (derived_octets_of (triple_des_cipher key) 8 21 constant)

-- String-to-key is random-to-key of the 168-fold of password and salt, then DK with "kerberos" (RFC 3961, section 6.3.1). Test: `key
-- 16`.
unfoldable pub des3_password_key_of : List ℕ → List ℕ → List ℕ
des3_password_key_of password salt =
    des3_derived_key_of (random_to_key (n_fold_of (password ++ salt) 168)) (codes "kerberos")
