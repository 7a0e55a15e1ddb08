-- What opening tells of what is sealed.
use Rattle.std.proofs.Common.{◌≡◌, ◌≢◌, ◌⊎◌, ◌+◌, ◌-◌, ◌*◌, ◌%◌, ◌<◌, ◌≤◌, ℕ, List, ◌++◌, length, take, sym, ap, ◌∙◌, inl, inr, arith, lit<}
use Rattle.std.proofs.lemmas.List.{length-append, length-take-le}
use Rattle.std.proofs.lemmas.Bool.{cases_eq, cases_lt}
use Rattle.block_ciphers.specs.Chains.{IsChained, block_count, zero_filled}
use Rattle.block_ciphers.specs.declared.error.KerberosCryptoError.{KerberosCryptoError}
use Rattle.block_ciphers.specs.declared.error.KerberosCryptoError.TheVariants.{CipherLength, CipherUnpad, IntegrityCheck, KeyLength, Memory}
use Rattle.block_ciphers.proofs.Stealing.{length-zero_filled}
use Rattle.block_ciphers.specs.Des.{triple_des_cipher}
use Rattle.encryption_profiles.specs.Profile.{ke_of}
use Rattle.encryption_profiles.specs.Sealing.{IsEncryptedAs, IsNothingSealedAs, IsSealedAs}
use Rattle.encryption_profiles.proofs.Sealed.{sealed_sized}
use Rattle.encryption_profiles.specs.Suite.{HasDes3Lengths, IsDes3Refusal, des3_profile}
use Rattle.encryption_profiles.proofs.Des3Laws.{des3_laws, filled_whole}

-- the checksum follows whole blocks, and the confounder is one of them
pub sealed_lengths : (key : List ℕ) (usage : ℕ) (conf plain bytes : List ℕ) → IsSealedAs des3_profile key usage conf plain bytes → (28 ≤ length bytes) × ((length bytes - 20) % 8 ≡ 0)
sealed_lengths key usage conf plain bytes x =
    let padded : length (zero_filled 8 plain) ≡ 8 * block_count 8 (length plain) = length-zero_filled 8 plain (lit< tt) in
    let all : length bytes ≡ 8 + length (zero_filled 8 plain) + 20 = sealed_sized des3_profile des3_laws key usage conf plain bytes x in
    (omega (arith, all), omega (arith, all, padded))

-- a refusal that is memory where the lengths are right
pub refused_unless_memory : (key : List ℕ) (usage : ℕ) (bytes : List ℕ) (e : KerberosCryptoError)
    → (HasDes3Lengths (length key) (length bytes) → e ≡ Memory) → (e ≡ Memory) ⊎ IsNothingSealedAs des3_profile key usage bytes
refused_unless_memory key usage bytes e memory =
    elim (cases_eq (length key) 24) [
      | inr other ↦ inr (λ c p x. other x.key_sized)
      | inl keyed ↦ elim (cases_lt (length bytes) 28) [
        | inl short ↦ inr (λ c p x. let lengths = sealed_lengths key usage c p bytes x in absurd (omega (arith, short, lengths.0)))
        | inr long ↦ elim (cases_eq ((length bytes - 20) % 8) 0) [
          | inl whole ↦ inl (memory (keyed, long, whole))
          | inr ragged ↦ inr (λ c p x. let lengths = sealed_lengths key usage c p bytes x in ragged lengths.1)
        ]
      ]
    ]

-- the refusals by the lengths, and the one behind them
pub refusal_from_parts : (key_bytes bytes : ℕ) (e : KerberosCryptoError) → (key_bytes ≢ 24 → e ≡ KeyLength key_bytes 24) → (key_bytes ≡ 24 → bytes < 28 → e ≡ CipherLength bytes 28)
    → (key_bytes ≡ 24 → 28 ≤ bytes → (bytes - 20) % 8 ≢ 0 → e ≡ CipherUnpad) → (HasDes3Lengths key_bytes bytes → (e ≡ Memory) ⊎ (e ≡ IntegrityCheck)) → IsDes3Refusal key_bytes bytes e
refusal_from_parts key_bytes bytes e keyed short ragged judged = record { keyed = keyed; short = short; ragged = ragged; judged = judged }

pub refusal_at_lengths : (key_bytes bytes : ℕ) (e : KerberosCryptoError) → HasDes3Lengths key_bytes bytes → (e ≡ Memory) ⊎ (e ≡ IntegrityCheck) → IsDes3Refusal key_bytes bytes e
refusal_at_lengths key_bytes bytes e lengths judged =
    refusal_from_parts key_bytes bytes e (λ other. absurd (other lengths.0)) (λ same few. absurd (omega (arith, few, lengths.1))) (λ same long odd. absurd (odd lengths.2)) (λ right. judged)

-- a text of whole blocks that is chained to the bytes before the checksum is encrypted to them
pub encrypted_from_chain : (key : List ℕ) (usage : ℕ) (text bytes : List ℕ) → 28 ≤ length bytes → (length bytes - 20) % 8 ≡ 0
    → IsChained 8 (triple_des_cipher (ke_of des3_profile key usage)) text (take (length bytes - 20) bytes) → IsEncryptedAs des3_profile key usage text (take (length bytes - 20) bytes)
encrypted_from_chain key usage text bytes long whole chained =
    let cut : length (take (length bytes - 20) bytes) ≡ length bytes - 20 = length-take-le (length bytes - 20) bytes (omega arith) in
    let filled : zero_filled 8 text ≡ text = filled_whole text (rw (sym chained.same_length, cut) whole) in
    rw filled chained

-- what is opened is whole blocks
pub opened_whole : (key : List ℕ) (conf plain bytes : List ℕ) → HasDes3Lengths (length key) (length bytes) → length conf ≡ 8 → length plain ≡ length bytes - 28 → zero_filled 8 (conf ++ plain) ≡ conf ++ plain
opened_whole key conf plain bytes lengths conf_sized plain_sized =
    let both : length (conf ++ plain) ≡ 8 + length plain = length-append conf plain ∙ ap (λ (n : ℕ). n + length plain) conf_sized in
    filled_whole (conf ++ plain) (omega (arith, both, plain_sized, lengths.1, lengths.2))
