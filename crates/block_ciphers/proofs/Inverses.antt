-- The steps of a round keep blocks of bytes, and each is undone by its inverse.
use Rattle.std.proofs.Common.{◌≡◌, ◌<◌, ◌+◌, ◌-◌, ◌*◌, ◌%◌, ℕ, zero, suc, Bool, true, List, length, get_or, slice_index, bit_xor, ◌==◌, if◌then◌else◌, refl, sym, ap, ◌∙◌, lit<, arith}
use Rattle.std.specs.Int.Bits.{xor_zero_l, xor_zero_r}
use Rattle.std.proofs.lemmas.Bool.{eqb-true}
use Rattle.std.proofs.lemmas.Nat.{xor_lt}
use Rattle.std.proofs.lemmas.List.FromFn.{get_or-map-range_with_len, length-map-range_with_len, fill_by_all}
use Rattle.block_ciphers.specs.Bytes.{IsBytes, IsBlock}
use Rattle.block_ciphers.specs.Field.{field_product, product_below, remainder, sub_byte, inv_sub_byte}
use Rattle.block_ciphers.specs.Aes.{entry, sum_of_four, coefficient, column, column_product, mixing, unmixing, sub_bytes, inv_sub_bytes, shift_rows, inv_shift_rows, multiply_columns}
use Rattle.block_ciphers.proofs.AllBytes.{all_below, all_below_at}
use Rattle.block_ciphers.proofs.Tables.{product_small, sub_byte-lt, inv_sub_byte-lt, inv_sub_byte-sub_byte, sub_byte-inv_sub_byte}
use Rattle.block_ciphers.proofs.Sums.{field_product-sum, sum_swap}
use Rattle.block_ciphers.proofs.States.{IsBytes-from_below, entry-state_of, state_of_entries, state_of-block}

pub sub_bytes-block : (s : List ℕ) → IsBlock 16 s → IsBlock 16 (sub_bytes s)
unfolding sub_bytes
sub_bytes-block s h = state_of-block (λ r c. sub_byte (entry s r c)) (λ r c _ _. sub_byte-lt (entry s r c) (h.bytes (r + 4 * c)))

pub inv_sub_bytes-block : (s : List ℕ) → IsBlock 16 s → IsBlock 16 (inv_sub_bytes s)
unfolding inv_sub_bytes
inv_sub_bytes-block s h = state_of-block (λ r c. inv_sub_byte (entry s r c)) (λ r c _ _. inv_sub_byte-lt (entry s r c) (h.bytes (r + 4 * c)))

pub shift_rows-block : (s : List ℕ) → IsBlock 16 s → IsBlock 16 (shift_rows s)
unfolding shift_rows
shift_rows-block s h = state_of-block (λ r c. entry s r ((c + r) % 4)) (λ r c _ _. h.bytes (r + 4 * ((c + r) % 4)))

pub inv_shift_rows-block : (s : List ℕ) → IsBlock 16 s → IsBlock 16 (inv_shift_rows s)
unfolding inv_shift_rows
inv_shift_rows-block s h = state_of-block (λ r c. entry s r ((c + (4 - r)) % 4)) (λ r c _ _. h.bytes (r + 4 * ((c + (4 - r)) % 4)))

pub inv_sub_bytes-sub_bytes : (s : List ℕ) → IsBlock 16 s → inv_sub_bytes (sub_bytes s) ≡ s
unfolding sub_bytes inv_sub_bytes
inv_sub_bytes-sub_bytes s h =
    state_of_entries _ s h.sized
    (λ r c row col. ap inv_sub_byte (entry-state_of (λ r c. sub_byte (entry s r c)) r c row col) ∙ inv_sub_byte-sub_byte (entry s r c) (h.bytes (r + 4 * c)))

pub sub_bytes-inv_sub_bytes : (s : List ℕ) → IsBlock 16 s → sub_bytes (inv_sub_bytes s) ≡ s
unfolding sub_bytes inv_sub_bytes
sub_bytes-inv_sub_bytes s h =
    state_of_entries _ s h.sized
    (λ r c row col. ap sub_byte (entry-state_of (λ r c. inv_sub_byte (entry s r c)) r c row col) ∙ sub_byte-inv_sub_byte (entry s r c) (h.bytes (r + 4 * c)))

pub inv_shift_rows-shift_rows : (s : List ℕ) → IsBlock 16 s → inv_shift_rows (shift_rows s) ≡ s
unfolding shift_rows inv_shift_rows
inv_shift_rows-shift_rows s h =
    state_of_entries _ s h.sized
    (λ r c row col.
    let back : ((c + (4 - r)) % 4 + r) % 4 ≡ c = omega arith in
    entry-state_of (λ r c. entry s r ((c + r) % 4)) r ((c + (4 - r)) % 4) row (omega arith) ∙ ap (entry s r) back)

pub shift_rows-inv_shift_rows : (s : List ℕ) → IsBlock 16 s → shift_rows (inv_shift_rows s) ≡ s
unfolding shift_rows inv_shift_rows
shift_rows-inv_shift_rows s h =
    state_of_entries _ s h.sized
    (λ r c row col.
    let back : ((c + r) % 4 + (4 - r)) % 4 ≡ c = omega arith in
    entry-state_of (λ r c. entry s r ((c + (4 - r)) % 4)) r ((c + r) % 4) row (omega arith) ∙ ap (entry s r) back)

-- the product with m and then with u, of one coefficient x in place k, read in place r
passed : List ℕ → List ℕ → ℕ → ℕ → ℕ → ℕ
passed u m r k x = sum_of_four (λ j. field_product (slice_index u ((r + 4 - j) % 4)) (field_product (slice_index m ((j + 4 - k) % 4)) x))

-- that is x where r is k, and 0 elsewhere
undoes : List ℕ → List ℕ → Bool
undoes u m = all_below (λ r. all_below (λ k. all_below (λ x. passed u m r k x == (if k == r then x else 0)) 256) 4) 4

unmixing_undoes : undoes unmixing mixing ≡ true
unfolding undoes passed all_below field_product product_below remainder
unmixing_undoes = refl

mixing_undoes : undoes mixing unmixing ≡ true
unfolding undoes passed all_below field_product product_below remainder
mixing_undoes = refl

-- a polynomial of a column with small coefficients
abbrev IsSmall : List ℕ → Type 0
IsSmall a = (j : ℕ) → slice_index a j < 16

mixing_small : IsSmall mixing
mixing_small zero = lit< tt
mixing_small (suc zero) = lit< tt
mixing_small (suc (suc zero)) = lit< tt
mixing_small (suc (suc (suc zero))) = lit< tt
mixing_small (suc (suc (suc (suc j)))) = lit< tt

unmixing_small : IsSmall unmixing
unmixing_small zero = lit< tt
unmixing_small (suc zero) = lit< tt
unmixing_small (suc (suc zero)) = lit< tt
unmixing_small (suc (suc (suc zero))) = lit< tt
unmixing_small (suc (suc (suc (suc j)))) = lit< tt

coefficient_small : (a b : List ℕ) (r : ℕ) → IsSmall a → IsBytes b → coefficient a b r < 256
coefficient_small a b r small bytes =
    let term = λ (j : ℕ). field_product (slice_index a ((r + 4 - j) % 4)) (slice_index b j) in
    let fits = λ (j : ℕ). product_small (slice_index a ((r + 4 - j) % 4)) (slice_index b j) (small ((r + 4 - j) % 4)) (bytes j) in
    let two = xor_lt 8 (term 0) (term 1) (fits 0) (fits 1) in
    let three = xor_lt 8 (bit_xor (term 0) (term 1)) (term 2) two (fits 2) in
    xor_lt 8 (bit_xor (bit_xor (term 0) (term 1)) (term 2)) (term 3) three (fits 3)

pub at_place : (a b : List ℕ) (r : ℕ) → r < 4 → get_or (column_product a b) r 0 ≡ coefficient a b r
unfolding column_product
at_place a b r h = get_or-map-range_with_len (coefficient a b) 0 4 r r 0 h (omega arith)

pub length-column_product : (a b : List ℕ) → length (column_product a b) ≡ 4
unfolding column_product
length-column_product a b = length-map-range_with_len (coefficient a b) 0 4

column_product-bytes : (a b : List ℕ) → IsSmall a → IsBytes b → IsBytes (column_product a b)
column_product-bytes a b small bytes =
    IsBytes-from_below (column_product a b) 4 (length-column_product a b) (λ r h. rw (at_place a b r h) (coefficient_small a b r small bytes))

-- the sum of four terms of which all but one are 0
picked_out : (b : ℕ → ℕ) (r : ℕ) → r < 4 → sum_of_four (λ k. if k == r then b k else 0) ≡ b r
picked_out b zero h = rw (xor_zero_r (b 0), xor_zero_r (b 0), xor_zero_r (b 0)) refl
picked_out b (suc zero) h = rw (xor_zero_l (b 1), xor_zero_r (b 1), xor_zero_r (b 1)) refl
picked_out b (suc (suc zero)) h = rw (xor_zero_l (b 2), xor_zero_r (b 2)) refl
picked_out b (suc (suc (suc zero))) h = xor_zero_l (b 3)
picked_out b (suc (suc (suc (suc r)))) h = absurd (omega arith)

passed_is : (u m : List ℕ) → undoes u m ≡ true → (r k x : ℕ) → r < 4 → k < 4 → x < 256 → passed u m r k x ≡ (if k == r then x else 0)
unfolding undoes
passed_is u m test r k x hr hk hx =
    let rows = λ (r : ℕ). all_below (λ k. all_below (λ x. passed u m r k x == (if k == r then x else 0)) 256) 4 in
    let places = λ (k : ℕ). all_below (λ x. passed u m r k x == (if k == r then x else 0)) 256 in
    eqb-true _ _ (all_below_at (λ x. passed u m r k x == (if k == r then x else 0)) 256 x (all_below_at places 4 k (all_below_at rows 4 r test hr) hk) hx)

-- a product with m, then with u, gives the column back
product_back : (u m : List ℕ) → undoes u m ≡ true → (b : List ℕ) (r : ℕ) → IsBytes b → r < 4 → coefficient u (column_product m b) r ≡ get_or b r 0
unfolding column_product passed
product_back u m test b r bytes h =
    let U = λ (j : ℕ). slice_index u ((r + 4 - j) % 4) in
    let inner = λ (j k : ℕ). field_product (slice_index m ((j + 4 - k) % 4)) (slice_index b k) in
    let linear : sum_of_four (λ j. field_product (U j) (sum_of_four (inner j))) ≡ sum_of_four (λ j. sum_of_four (λ k. field_product (U j) (inner j k))) =
    rw (field_product-sum (U 0) (inner 0), field_product-sum (U 1) (inner 1), field_product-sum (U 2) (inner 2), field_product-sum (U 3) (inner 3)) refl in
    let apart : sum_of_four (λ k. passed u m r k (slice_index b k)) ≡ sum_of_four (λ k. if k == r then slice_index b k else 0) =
    rw (passed_is u m test r 0 (slice_index b 0) h (lit< tt) (bytes 0), passed_is u m test r 1 (slice_index b 1) h (lit< tt) (bytes 1), passed_is u m test r 2 (slice_index b 2) h (lit< tt) (bytes 2), passed_is u m test r 3 (slice_index b 3) h (lit< tt) (bytes 3)) refl in
    linear ∙ sum_swap (λ j k. field_product (U j) (inner j k)) ∙ apart ∙ picked_out (λ k. slice_index b k) r h

pub get_or-column : (s : List ℕ) (c r : ℕ) → r < 4 → get_or (column s c) r 0 ≡ entry s r c
get_or-column s c r h = get_or-map-range_with_len (λ r. entry s r c) 0 4 r r 0 h (omega arith)

column-bytes : (s : List ℕ) (c : ℕ) → IsBytes s → IsBytes (column s c)
column-bytes s c bytes = IsBytes-from_below (column s c) 4 refl (λ r h. rw (get_or-column s c r h) (bytes (r + 4 * c)))

column-multiplied : (m s : List ℕ) (c : ℕ) → c < 4 → column (multiply_columns m s) c ≡ column_product m (column s c)
unfolding multiply_columns
column-multiplied m s c h =
    sym (fill_by_all (λ r. entry (multiply_columns m s) r c) (column_product m (column s c)) 4 0 (length-column_product m (column s c))
    (λ r row. sym (entry-state_of (λ r c. slice_index (column_product m (column s c)) r) r c row h)))

multiplied_back : (u m : List ℕ) → undoes u m ≡ true → (s : List ℕ) → IsBlock 16 s → multiply_columns u (multiply_columns m s) ≡ s
unfolding multiply_columns
multiplied_back u m test s h =
    state_of_entries (λ r c. slice_index (column_product u (column (multiply_columns m s) c)) r) s h.sized
    (λ r c row col.
    ap (λ (w : List ℕ). slice_index (column_product u w) r) (column-multiplied m s c col)
    ∙ at_place u (column_product m (column s c)) r row
    ∙ product_back u m test (column s c) r (column-bytes s c h.bytes) row
    ∙ get_or-column s c r row)

multiplied-block : (a : List ℕ) → IsSmall a → (s : List ℕ) → IsBlock 16 s → IsBlock 16 (multiply_columns a s)
unfolding multiply_columns
multiplied-block a small s h =
    state_of-block (λ r c. slice_index (column_product a (column s c)) r) (λ r c _ _. column_product-bytes a (column s c) small (column-bytes s c h.bytes) r)

pub mix_columns-block : (s : List ℕ) → IsBlock 16 s → IsBlock 16 (multiply_columns mixing s)
mix_columns-block = multiplied-block mixing mixing_small

pub inv_mix_columns-block : (s : List ℕ) → IsBlock 16 s → IsBlock 16 (multiply_columns unmixing s)
inv_mix_columns-block = multiplied-block unmixing unmixing_small

pub inv_mix_columns-mix_columns : (s : List ℕ) → IsBlock 16 s → multiply_columns unmixing (multiply_columns mixing s) ≡ s
inv_mix_columns-mix_columns = multiplied_back unmixing mixing unmixing_undoes

pub mix_columns-inv_mix_columns : (s : List ℕ) → IsBlock 16 s → multiply_columns mixing (multiply_columns unmixing s) ≡ s
mix_columns-inv_mix_columns = multiplied_back mixing unmixing mixing_undoes
