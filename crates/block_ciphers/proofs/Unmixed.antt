-- The equivalent inverse cipher (FIPS 197, section 5.3.5): a product of columns is linear, so that the round keys can be
-- unmixed beforehand.
use Rattle.std.proofs.Common.{◌≡◌, ◌<◌, ◌≤◌, ◌+◌, ◌-◌, ◌*◌, ◌%◌, ℕ, List, [], ◌∷◌, ◌++◌, length, get_or, slice_index, bit_xor, refl, sym, ap, ◌∙◌, arith}
use Rattle.std.specs.Int.{w32, to_be_bytes}
use Rattle.block_ciphers.specs.Field.{field_product}
use Rattle.block_ciphers.specs.Bytes.{sum_of_bytes}
use Rattle.block_ciphers.specs.Aes.{entry, sum_of_four, coefficient, column, column_product, unmixing, multiply_columns, inv_mix_columns, round_key}
use Rattle.block_ciphers.specs.Words.{bytes_of, IsUnmixed, schedule_of}
use Rattle.block_ciphers.proofs.Sums.{field_product-xor, sum_of_sums}
use Rattle.block_ciphers.proofs.States.{length-sum_of_bytes, get_or-sum_of_bytes, entry-state_of, state_of_entries}
use Rattle.block_ciphers.proofs.Inverses.{at_place, get_or-column}
use Rattle.block_ciphers.proofs.WordBytes.{bytes_of-four, round_key-bytes_of, round_key-schedule_of}

-- an entry of a sum of blocks
entry-sum : (s t : List ℕ) (r c : ℕ) → r < 4 → c < 4 → entry (sum_of_bytes 16 s t) r c ≡ bit_xor (entry s r c) (entry t r c)
entry-sum s t r c row col = get_or-sum_of_bytes 16 s t (r + 4 * c) (omega arith)

-- a coefficient is linear in the second factor, of which it reads four places
coefficient-sum :
    (a x y z : List ℕ) (r : ℕ) → ((j : ℕ) → j < 4 → get_or z j 0 ≡ bit_xor (get_or x j 0) (get_or y j 0)) → coefficient a z r ≡ bit_xor (coefficient a x r) (coefficient a y r)
coefficient-sum a x y z r sum =
    let A = λ (j : ℕ). slice_index a ((r + 4 - j) % 4) in
    let at = λ (j : ℕ) (h : j < 4). ap (field_product (A j)) (sum j h) ∙ field_product-xor (A j) (get_or x j 0) (get_or y j 0) in
    let apart : coefficient a z r ≡ sum_of_four (λ j. bit_xor (field_product (A j) (get_or x j 0)) (field_product (A j) (get_or y j 0))) =
    rw (at 0 (omega arith), at 1 (omega arith), at 2 (omega arith), at 3 (omega arith)) refl in
    apart ∙ sum_of_sums (λ j. field_product (A j) (get_or x j 0)) (λ j. field_product (A j) (get_or y j 0))

-- columns times a polynomial, of a sum of blocks
pub multiplied-sum : (a s t : List ℕ) → multiply_columns a (sum_of_bytes 16 s t) ≡ sum_of_bytes 16 (multiply_columns a s) (multiply_columns a t)
unfolding multiply_columns
multiplied-sum a s t =
    let sum = sum_of_bytes 16 s t in
    let times = λ (b : List ℕ) (r c : ℕ). slice_index (column_product a (column b c)) r in
    state_of_entries (times sum) (sum_of_bytes 16 (multiply_columns a s) (multiply_columns a t)) (length-sum_of_bytes 16 (multiply_columns a s) (multiply_columns a t))
    (λ r c row col.
    let place = λ (j : ℕ) (h : j < 4).
    get_or-column sum c j h ∙ entry-sum s t j c h col ∙ sym (ap (λ (x : ℕ). bit_xor x (get_or (column t c) j 0)) (get_or-column s c j h) ∙ ap (bit_xor (entry s j c)) (get_or-column t c j h)) in
    let read = λ (b : List ℕ). entry-state_of (times b) r c row col ∙ at_place a (column b c) r row in
    at_place a (column sum c) r row ∙ coefficient-sum a (column s c) (column t c) (column sum c) r place
    ∙ sym (entry-sum (multiply_columns a s) (multiply_columns a t) r c row col
    ∙ ap (λ (x : ℕ). bit_xor x (entry (multiply_columns a t) r c)) (read s) ∙ ap (bit_xor (coefficient a (column s c) r)) (read t)))

-- the columns of four words unmixed
unmixed_four :
    (a b c d : ℕ)
    → column_product unmixing (to_be_bytes w32 a) ++ (column_product unmixing (to_be_bytes w32 b) ++ (column_product unmixing (to_be_bytes w32 c) ++ column_product unmixing (to_be_bytes w32 d)))
    ≡ inv_mix_columns (bytes_of (a ∷ b ∷ c ∷ d ∷ []))
unfolding bytes_of multiply_columns column_product
unmixed_four a b c d = refl

-- words unmixed one by one hold the unmixed round keys
pub unmixed_words :
    (ws ds : List ℕ) (n i : ℕ) → length ws ≡ 60 → length ds ≡ 60 → n < 15 → 4 * n ≤ i
    → ((k : ℕ) → 4 ≤ k → k < i → to_be_bytes w32 (get_or ds k 0) ≡ column_product unmixing (to_be_bytes w32 (get_or ws k 0)))
    → IsUnmixed n (bytes_of ws) (bytes_of ds)
unmixed_words ws ds n i long_ws long_ds few done each m some below =
    let at = λ (k : ℕ) (low : 4 ≤ k) (high : k < 4 * n). each k low (omega arith) in
    round_key-bytes_of ds m (omega arith)
    ∙ bytes_of-four _ _ _ _ _ _ _ _ (at (4 * m) (omega arith) (omega arith)) (at (4 * m + 1) (omega arith) (omega arith)) (at (4 * m + 2) (omega arith) (omega arith)) (at (4 * m + 3) (omega arith) (omega arith))
    ∙ unmixed_four (get_or ws (4 * m) 0) (get_or ws (4 * m + 1) 0) (get_or ws (4 * m + 2) 0) (get_or ws (4 * m + 3) 0)
    ∙ ap inv_mix_columns (sym (round_key-bytes_of ws m (omega arith)))

-- a round key added, as the code reads it from the words
module _ (ws : List ℕ) (n : ℕ) (long : length ws ≡ 60) (few : n < 15) where
  pub keyed : (s t k : List ℕ) (m : ℕ) → m ≤ n → t ≡ s → k ≡ round_key (bytes_of ws) m → sum_of_bytes 16 t k ≡ sum_of_bytes 16 s (round_key (schedule_of n ws) m)
  keyed s t k m within same key = ap (λ (x : List ℕ). sum_of_bytes 16 x k) same ∙ ap (sum_of_bytes 16 s) (key ∙ round_key-schedule_of ws n m (omega arith) within)

  -- an unmixed round key added to an unmixed state: the sum unmixed
  pub keyed_unmixed :
      (ds s k : List ℕ) (m : ℕ) → IsUnmixed n (bytes_of ws) (bytes_of ds) → 0 < m → m < n → k ≡ round_key (bytes_of ds) m
      → sum_of_bytes 16 (inv_mix_columns s) k ≡ inv_mix_columns (sum_of_bytes 16 s (round_key (schedule_of n ws) m))
  keyed_unmixed ds s k m unmixed some below key =
      ap (sum_of_bytes 16 (inv_mix_columns s)) (key ∙ unmixed m some below ∙ ap inv_mix_columns (round_key-schedule_of ws n m (omega arith) (omega arith)))
      ∙ sym (multiplied-sum unmixing s (round_key (schedule_of n ws) m))
