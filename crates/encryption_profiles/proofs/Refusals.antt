-- The refusals of opening, in their order.
use Rattle.std.proofs.Common.{◌≡◌, ◌≢◌, ◌⊎◌, ◌<◌, ◌≤◌, ℕ, Result, Ok, Err, IfErr, inl, arith}
use Rattle.block_ciphers.specs.declared.error.KerberosCryptoError.{KerberosCryptoError}
use Rattle.block_ciphers.specs.declared.error.KerberosCryptoError.TheVariants.{CipherLength, IntegrityCheck, KeyLength, Memory}
use Rattle.encryption_profiles.specs.Sealing.{IsRefusalInOrder}

-- by the lengths, before anything is judged
pub refusals_by_length : {A : Type 0} (size least key_bytes bytes : ℕ) (r : Result A KerberosCryptoError) → (bytes < least → r ≡ Err (CipherLength bytes least))
    → (least ≤ bytes → key_bytes ≢ size → r ≡ Err (KeyLength key_bytes size)) → (least ≤ bytes → key_bytes ≡ size → IfErr r (λ e. e ≡ Memory))
    → IfErr r (λ e. IsRefusalInOrder size least key_bytes bytes e)
refusals_by_length size least key_bytes bytes (Ok d) short keyed memory = tt
refusals_by_length size least key_bytes bytes (Err e) short keyed memory = record {
  short = λ few. let is = short few in cc;
  keyed = λ long other. let is = keyed long other in cc;
  judged = λ long same. inl (memory long same);
}

-- where the lengths are right
pub refusal_at_lengths : (size least key_bytes bytes : ℕ) (e : KerberosCryptoError) → least ≤ bytes → key_bytes ≡ size → (e ≡ Memory) ⊎ (e ≡ IntegrityCheck) → IsRefusalInOrder size least key_bytes bytes e
refusal_at_lengths size least key_bytes bytes e long same judged =
    record { short = λ few. absurd (omega (arith, few, long)); keyed = λ _ other. absurd (other same); judged = λ _ _. judged }
