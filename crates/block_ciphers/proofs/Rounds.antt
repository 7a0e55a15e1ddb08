-- The cipher and the inverse cipher keep blocks of bytes and undo each other.
use Rattle.std.proofs.Common.{◌≡◌, ◌<◌, ◌≤◌, ◌+◌, ◌-◌, ◌*◌, ℕ, zero, suc, List, length, take, drop, refl, inl, inr, lit<, arith}
use Rattle.block_ciphers.specs.Bytes.{IsBytes, IsBlock, sum_of_bytes}
use Rattle.block_ciphers.specs.Aes.{IsAesKey, round_key, round_count, sub_bytes, inv_sub_bytes, shift_rows, inv_shift_rows, mix_columns, inv_mix_columns, rounds, inv_rounds, cipher, inv_cipher, key_schedule, aes_cipher, aes_inverse}
use Rattle.block_ciphers.specs.AesSize.{key_length_of}
use Rattle.block_ciphers.specs.declared.aes.AesSize.{AesSize}
use Rattle.block_ciphers.specs.declared.aes.AesSize.TheVariants.{Aes128, Aes256}
use Rattle.block_ciphers.specs.Chains.{IsChained, IsBlockCipher, IsCompleted}
use Rattle.block_ciphers.proofs.States.{IsBlock-cut, length-sum_of_bytes, sum_of_bytes-block, sum_of_bytes-twice}
use Rattle.block_ciphers.proofs.Inverses.{sub_bytes-block, inv_sub_bytes-block, shift_rows-block, inv_shift_rows-block, mix_columns-block, inv_mix_columns-block, inv_sub_bytes-sub_bytes, sub_bytes-inv_sub_bytes, inv_shift_rows-shift_rows, shift_rows-inv_shift_rows, inv_mix_columns-mix_columns, mix_columns-inv_mix_columns}
use Rattle.block_ciphers.proofs.Words.{length-key_schedule, IsBytes-key_schedule}

-- a round without its key, and that undone
forth : List ℕ → List ℕ
forth s = mix_columns (shift_rows (sub_bytes s))

back : List ℕ → List ℕ
back s = inv_sub_bytes (inv_shift_rows (inv_mix_columns s))

module _ (w : List ℕ) (w_bytes : IsBytes w) (n : ℕ) (sized : 16 * n + 16 ≤ length w) where
  keyed-block : (k : ℕ) → k ≤ n → (s : List ℕ) → IsBlock 16 s → IsBlock 16 (sum_of_bytes 16 s (round_key w k))
  keyed-block k within s h = sum_of_bytes-block 16 s (round_key w k) h.bytes (IsBlock-cut 16 (16 * k) w w_bytes (omega arith)).bytes

  rounds-block : (k : ℕ) → k ≤ n → (s : List ℕ) → IsBlock 16 s → IsBlock 16 (rounds w s k)
  unfolding rounds
  rounds-block zero within s h = keyed-block 0 within s h
  rounds-block (suc k) within s h =
      keyed-block (suc k) within (mix_columns (shift_rows (sub_bytes (rounds w s k))))
      (mix_columns-block _ (shift_rows-block _ (sub_bytes-block _ (rounds-block k (omega arith) s h))))

  inv_rounds-block : (k : ℕ) → k ≤ n → (s : List ℕ) → IsBlock 16 s → IsBlock 16 (inv_rounds w s k)
  unfolding inv_rounds
  inv_rounds-block zero within s h = keyed-block 0 within s h
  inv_rounds-block (suc k) within s h =
      inv_rounds-block k (omega arith) (inv_sub_bytes (inv_shift_rows (inv_mix_columns (sum_of_bytes 16 s (round_key w (suc k))))))
      (inv_sub_bytes-block _ (inv_shift_rows-block _ (inv_mix_columns-block _ (keyed-block (suc k) within s h))))

  inv_rounds-rounds : (k : ℕ) → k ≤ n → (s : List ℕ) → IsBlock 16 s → inv_rounds w (rounds w s k) k ≡ s
  unfolding rounds inv_rounds
  inv_rounds-rounds zero within s h = sum_of_bytes-twice 16 s (round_key w 0) h.sized
  inv_rounds-rounds (suc k) within s h =
      let t = rounds w s k in
      let before : IsBlock 16 t = rounds-block k (omega arith) s h in
      let replaced : IsBlock 16 (sub_bytes t) = sub_bytes-block t before in
      let shifted : IsBlock 16 (shift_rows (sub_bytes t)) = shift_rows-block _ replaced in
      let mixed : IsBlock 16 (mix_columns (shift_rows (sub_bytes t))) = mix_columns-block _ shifted in
      rw (sum_of_bytes-twice 16 (mix_columns (shift_rows (sub_bytes t))) (round_key w (suc k)) mixed.sized, inv_mix_columns-mix_columns (shift_rows (sub_bytes t)) shifted, inv_shift_rows-shift_rows (sub_bytes t) replaced, inv_sub_bytes-sub_bytes t before)
      (inv_rounds-rounds k (omega arith) s h)

  rounds-inv_rounds : (k : ℕ) → k ≤ n → (s : List ℕ) → IsBlock 16 s → rounds w (inv_rounds w s k) k ≡ s
  unfolding rounds inv_rounds
  rounds-inv_rounds zero within s h = sum_of_bytes-twice 16 s (round_key w 0) h.sized
  rounds-inv_rounds (suc k) within s h =
      let t = sum_of_bytes 16 s (round_key w (suc k)) in
      let keyed : IsBlock 16 t = keyed-block (suc k) within s h in
      let unmixed : IsBlock 16 (inv_mix_columns t) = inv_mix_columns-block t keyed in
      let shifted : IsBlock 16 (inv_shift_rows (inv_mix_columns t)) = inv_shift_rows-block _ unmixed in
      let replaced : IsBlock 16 (inv_sub_bytes (inv_shift_rows (inv_mix_columns t))) = inv_sub_bytes-block _ shifted in
      rw (rounds-inv_rounds k (omega arith) (inv_sub_bytes (inv_shift_rows (inv_mix_columns t))) replaced, sub_bytes-inv_sub_bytes (inv_shift_rows (inv_mix_columns t)) shifted, shift_rows-inv_shift_rows (inv_mix_columns t) unmixed, mix_columns-inv_mix_columns t keyed)
      (sum_of_bytes-twice 16 s (round_key w (suc k)) h.sized)

  pub cipher-block : (s : List ℕ) → IsBlock 16 s → IsBlock 16 (cipher w n s)
  unfolding cipher
  cipher-block s h = keyed-block n (omega arith) _ (shift_rows-block _ (sub_bytes-block _ (rounds-block (n - 1) (omega arith) s h)))

  pub inv_cipher-block : (s : List ℕ) → IsBlock 16 s → IsBlock 16 (inv_cipher w n s)
  unfolding inv_cipher
  inv_cipher-block s h = inv_rounds-block (n - 1) (omega arith) _ (inv_sub_bytes-block _ (inv_shift_rows-block _ (keyed-block n (omega arith) s h)))

  pub inv_cipher-cipher : (s : List ℕ) → IsBlock 16 s → inv_cipher w n (cipher w n s) ≡ s
  unfolding cipher inv_cipher
  inv_cipher-cipher s h =
      let t = rounds w s (n - 1) in
      let before : IsBlock 16 t = rounds-block (n - 1) (omega arith) s h in
      let replaced : IsBlock 16 (sub_bytes t) = sub_bytes-block t before in
      let shifted : IsBlock 16 (shift_rows (sub_bytes t)) = shift_rows-block _ replaced in
      rw (sum_of_bytes-twice 16 (shift_rows (sub_bytes t)) (round_key w n) shifted.sized, inv_shift_rows-shift_rows (sub_bytes t) replaced, inv_sub_bytes-sub_bytes t before)
      (inv_rounds-rounds (n - 1) (omega arith) s h)

  pub cipher-inv_cipher : (s : List ℕ) → IsBlock 16 s → cipher w n (inv_cipher w n s) ≡ s
  unfolding cipher inv_cipher
  cipher-inv_cipher s h =
      let t = sum_of_bytes 16 s (round_key w n) in
      let keyed : IsBlock 16 t = keyed-block n (omega arith) s h in
      let shifted : IsBlock 16 (inv_shift_rows t) = inv_shift_rows-block _ keyed in
      let replaced : IsBlock 16 (inv_sub_bytes (inv_shift_rows t)) = inv_sub_bytes-block _ shifted in
      rw (rounds-inv_rounds (n - 1) (omega arith) (inv_sub_bytes (inv_shift_rows t)) replaced, sub_bytes-inv_sub_bytes (inv_shift_rows t) shifted, shift_rows-inv_shift_rows t keyed)
      (sum_of_bytes-twice 16 s (round_key w n) h.sized)

  pub cipher_pair : IsBlockCipher 16 (cipher w n) (inv_cipher w n)
  cipher_pair = record { some = lit< tt; cipher_block = cipher-block; inverse_block = inv_cipher-block; deciphered = inv_cipher-cipher; enciphered = cipher-inv_cipher }

pub length-cipher : (w : List ℕ) (n : ℕ) (s : List ℕ) → length (cipher w n s) ≡ 16
unfolding cipher
length-cipher w n s = length-sum_of_bytes 16 (shift_rows (sub_bytes (rounds w s (n - 1)))) (round_key w n)

-- a block as the code cuts it out
pub cut : (n : ℕ) (w : List ℕ) → take (16 * n + 16 - 16 * n) (drop (16 * n) w) ≡ take 16 (drop (16 * n) w)
cut n w = let size : 16 * n + 16 - 16 * n ≡ 16 = omega arith in rw size refl

-- the steps of the code
pub rounds_more : (w s t : List ℕ) (n : ℕ) → 0 < n → t ≡ rounds w s (n - 1) → sum_of_bytes 16 (mix_columns (shift_rows (sub_bytes t))) (round_key w n) ≡ rounds w s (n + 1 - 1)
unfolding rounds
rounds_more w s t zero some e = absurd (omega arith)
rounds_more w s t (suc m) some e =
    let here : suc m - 1 ≡ m = omega arith in
    let after : suc m + 1 - 1 ≡ suc m = omega arith in
    rw (after, e, here) refl

pub cipher_written : (w s t : List ℕ) (n last : ℕ) → n ≡ last → t ≡ rounds w s (n - 1) → sum_of_bytes 16 (shift_rows (sub_bytes t)) (round_key w last) ≡ cipher w last s
unfolding cipher
cipher_written w s t n last same e = rw (e, same) refl

pub inv_cipher_begun : (w s : List ℕ) (n : ℕ) → inv_rounds w (inv_sub_bytes (inv_shift_rows (sum_of_bytes 16 s (round_key w n)))) (n - 1) ≡ inv_cipher w n s
unfolding inv_cipher
inv_cipher_begun w s n = refl

pub inv_rounds_less : (w s : List ℕ) (n m : ℕ) → n ≡ suc m → inv_rounds w (inv_sub_bytes (inv_shift_rows (inv_mix_columns (sum_of_bytes 16 s (round_key w n))))) m ≡ inv_rounds w s n
unfolding inv_rounds
inv_rounds_less w s n m e = rw e refl

pub inv_rounds_none : (w s : List ℕ) (n : ℕ) → n ≡ 0 → sum_of_bytes 16 s (round_key w 0) ≡ inv_rounds w s n
unfolding inv_rounds
inv_rounds_none w s n none = rw none refl

-- AES under a key
module _ (key : List ℕ) (sized : IsAesKey key) (bytes : IsBytes key) where
  fits : 16 * round_count key + 16 ≤ length (key_schedule key)
  fits = omega (arith, length-key_schedule key sized)

  pub aes_cipher-block : (s : List ℕ) → IsBlock 16 s → IsBlock 16 (aes_cipher key s)
  unfolding aes_cipher
  aes_cipher-block = cipher-block (key_schedule key) (IsBytes-key_schedule key bytes) (round_count key) fits

  pub aes_inverse-block : (s : List ℕ) → IsBlock 16 s → IsBlock 16 (aes_inverse key s)
  unfolding aes_inverse
  aes_inverse-block = inv_cipher-block (key_schedule key) (IsBytes-key_schedule key bytes) (round_count key) fits

  pub aes_inverse-aes_cipher : (s : List ℕ) → IsBlock 16 s → aes_inverse key (aes_cipher key s) ≡ s
  unfolding aes_cipher aes_inverse
  aes_inverse-aes_cipher = inv_cipher-cipher (key_schedule key) (IsBytes-key_schedule key bytes) (round_count key) fits

  pub aes_cipher-aes_inverse : (s : List ℕ) → IsBlock 16 s → aes_cipher key (aes_inverse key s) ≡ s
  unfolding aes_cipher aes_inverse
  aes_cipher-aes_inverse = cipher-inv_cipher (key_schedule key) (IsBytes-key_schedule key bytes) (round_count key) fits

  -- AES is a cipher of blocks of 16 bytes
  pub aes_block_cipher : IsBlockCipher 16 (aes_cipher key) (aes_inverse key)
  aes_block_cipher =
      record { some = lit< tt; cipher_block = aes_cipher-block; inverse_block = aes_inverse-block; deciphered = aes_inverse-aes_cipher; enciphered = aes_cipher-aes_inverse }

-- the keys of both sizes are keys of AES
pub IsAesKey-of_size : (size : AesSize) (key : List ℕ) → length key ≡ key_length_of size → IsAesKey key
IsAesKey-of_size Aes256 key sized = inr sized
IsAesKey-of_size Aes128 key sized = inl sized

-- a chain under a key's schedule is a chain under AES with that key
pub chained_by_aes : (key w p c : List ℕ) (n : ℕ) → w ≡ key_schedule key → n ≡ round_count key → IsChained 16 (cipher w n) p c → IsChained 16 (aes_cipher key) p c
unfolding aes_cipher
chained_by_aes key w p c n words count chained = rw (words, count) at chained

-- and so is the cipher of a block
pub ciphered_by_aes : (key w s : List ℕ) (n : ℕ) → w ≡ key_schedule key → n ≡ round_count key → cipher w n s ≡ aes_cipher key s
unfolding aes_cipher
ciphered_by_aes key w s n words count = rw (words, count) refl

pub completed_by_aes : (key w c v : List ℕ) (n m : ℕ) → w ≡ key_schedule key → n ≡ round_count key → IsCompleted 16 m (cipher w n) c v → IsCompleted 16 m (aes_cipher key) c v
unfolding aes_cipher
completed_by_aes key w c v n m words count completed = rw (words, count) at completed
