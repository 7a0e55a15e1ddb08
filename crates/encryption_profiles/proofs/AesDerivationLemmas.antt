-- Derivation, block by block
use Rattle.std.proofs.Common.{◌≡◌, ℕ, ◌+◌, ◌*◌, ◌%◌, List, ◌++◌, length, sym, ◌∙◌, inl, inr, add-one, codes, arith}
use Rattle.std.proofs.lemmas.List.{append_assoc, append-nil, take_all}
use Rattle.std.specs.Int.{div_ceil}
use Rattle.block_ciphers.specs.Aes.{IsAesKey, aes_cipher, key_schedule, round_count}
use Rattle.block_ciphers.proofs.Rounds.{length-cipher}
use Rattle.encryption_profiles.specs.NFold.{n_fold_of}
use Rattle.encryption_profiles.specs.Pbkdf2.{pbkdf2_hmac_sha1_of}
use Rattle.encryption_profiles.specs.Derivation.{derived_octets_of, iterated_ciphers}
use Rattle.encryption_profiles.specs.AesDerivation.{aes_derived_key_of, aes_password_key_of}
use Rattle.encryption_profiles.specs.declared.aes.derivation.TheConstants.{AES_ITERATIONS}

-- one block more is enciphered
pub iterated_ciphers-more : (E : List ℕ → List ℕ) (done x next rest : List ℕ) (left n : ℕ) → left ≡ n + 1 → next ≡ E x
    → done ++ iterated_ciphers E x left ≡ rest → (done ++ next) ++ iterated_ciphers E next n ≡ rest
unfolding iterated_ciphers
iterated_ciphers-more E done x next rest left n one is before =
    rw (is, append_assoc) (rw (one, add-one n) at before)

-- none is left
pub iterated_ciphers-end : (E : List ℕ → List ℕ) (done x rest : List ℕ) (left : ℕ) → left ≡ 0 → done ++ iterated_ciphers E x left ≡ rest → done ≡ rest
unfolding iterated_ciphers
iterated_ciphers-end E done x rest left none before = sym (append-nil done) ∙ rw none at before

-- a cipher is a block
pub length-aes_cipher : (key block : List ℕ) → length (aes_cipher key block) ≡ 16
unfolding aes_cipher
length-aes_cipher key block = length-cipher (key_schedule key) (round_count key) block

-- where the blocks are whole, DR cuts nothing
pub derived_whole : (key constant done : List ℕ) (size count : ℕ) → length key ≡ size → size ≡ 16 * count → length done ≡ size
    → done ≡ iterated_ciphers (aes_cipher key) (n_fold_of constant 128) count → done ≡ aes_derived_key_of key constant
unfolding aes_derived_key_of derived_octets_of
derived_whole key constant done size count key_sized whole sized is =
    let blocks : div_ceil size 16 ≡ count = omega arith in
    rw (key_sized, blocks, ← is) (sym (take_all size done (omega arith)))

-- a key is whole blocks
pub key-whole : (key : List ℕ) → IsAesKey key → length key % 16 ≡ 0
key-whole key (inl short) = omega (arith, short)
key-whole key (inr long) = omega (arith, long)

-- PBKDF2, then the derivation
pub password_key_from_parts : (size : ℕ) (password salt seed key : List ℕ) → seed ≡ pbkdf2_hmac_sha1_of password salt AES_ITERATIONS size
    → key ≡ aes_derived_key_of seed (codes "kerberos") → key ≡ aes_password_key_of size password salt
unfolding aes_password_key_of
password_key_from_parts size password salt seed key made derived = rw made at derived
