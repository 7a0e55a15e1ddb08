-- Derived keys are keys again
use Rattle.std.proofs.Common.{◌≡◌, ℕ, ◌*◌, ◌≤◌, List, length, ◌∙◌, inl, inr, arith}
use Rattle.std.proofs.lemmas.List.{length-take-le}
use Rattle.std.specs.Int.{div_ceil}
use Rattle.block_ciphers.specs.Aes.{IsAesKey, aes_cipher, aes_inverse}
use Rattle.block_ciphers.specs.Bytes.{IsBytes}
use Rattle.block_ciphers.specs.Chains.{IsBlockCipher}
use Rattle.block_ciphers.proofs.Rounds.{aes_block_cipher}
use Rattle.block_ciphers.proofs.States.{IsBytes-take}
use Rattle.encryption_profiles.specs.NFold.{n_fold_of}
use Rattle.encryption_profiles.specs.Derivation.{derived_octets_of, iterated_ciphers}
use Rattle.encryption_profiles.proofs.Chained.{iterated_ciphers-blocks, n_fold_of-block}
use Rattle.encryption_profiles.specs.AesDerivation.{aes_derived_key_of}

-- a key that is derived from a key of AES is one, of the same length
pub derived_key : (key constant : List ℕ) → IsAesKey key → IsBytes key → (length (aes_derived_key_of key constant) ≡ length key) × IsBytes (aes_derived_key_of key constant)
unfolding aes_derived_key_of derived_octets_of
derived_key key constant is_key bytes =
    let pair : IsBlockCipher 16 (aes_cipher key) (aes_inverse key) = aes_block_cipher key is_key bytes in
    let count : ℕ = div_ceil (length key) 16 in
    let blocks = iterated_ciphers-blocks 16 (aes_cipher key) pair.cipher_block count (n_fold_of constant 128) (n_fold_of-block constant) in
    let enough : length key ≤ 16 * count = omega arith in
    (length-take-le (length key) (iterated_ciphers (aes_cipher key) (n_fold_of constant 128) count) (omega (arith, blocks.0)), IsBytes-take (length key) (iterated_ciphers (aes_cipher key) (n_fold_of constant 128) count) blocks.1)

pub derived_aes_key : (key constant : List ℕ) → IsAesKey key → IsBytes key → IsAesKey (aes_derived_key_of key constant)
derived_aes_key key constant is_key bytes =
    let sized = (derived_key key constant is_key bytes).0 in
    elim is_key [ inl short ↦ inl (sized ∙ short) | inr long ↦ inr (sized ∙ long) ]
