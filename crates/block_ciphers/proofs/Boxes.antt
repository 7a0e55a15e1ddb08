-- The table of the code against the eight boxes and the permutation P.
use Rattle.std.proofs.Common.{◌≡◌, ◌==◌, ◌<◌, ◌+◌, ◌-◌, ◌*◌, ◌/◌, ◌%◌, ◌^◌, ℕ, true, List, [], ◌++◌, length, get_or, take, drop, replicate, slice_index, bit_and, bit_xor, nat_lt, refl, sym, ap, ◌∙◌, inl, inr, arith, lit<}
use Rattle.std.specs.Int.{bit_at, rotate_left, w32}
use Rattle.std.specs.Int.Bits.{xor_zero_l, xor_zero_r}
use Rattle.std.proofs.lemmas.Bool.{cases_lt, eqb-true}
use Rattle.std.proofs.lemmas.Nat.{and_mask}
use Rattle.std.proofs.lemmas.Nat.Bits.{bit_at_xor, bit_at-lt}
use Rattle.std.proofs.lemmas.List.{get_or-take, get_or-drop, get_or-replicate, get_or_past, length-replicate, length-drop, length-take-le}
use Rattle.block_ciphers.specs.Bytes.{sum_of_bytes}
use Rattle.block_ciphers.specs.Chains.{block_at}
use Rattle.block_ciphers.proofs.AllBytes.{all_below, all_below_at}
use Rattle.block_ciphers.proofs.States.{get_or-sum_of_bytes, length-sum_of_bytes}
use Rattle.block_ciphers.specs.Bits.{low_bits, number, permuted, sum_of_bits}
use Rattle.block_ciphers.specs.Tables.{expansion, permutation, boxes, box_1, box_2, box_3, box_4, box_5, box_6, box_7, box_8}
use Rattle.block_ciphers.specs.Des.{selected, selected_by_all, cipher_function}
use Rattle.block_ciphers.specs.Places.{placed}
use Rattle.block_ciphers.specs.declared.des3.round.TheConstants.{JOINED}
use Rattle.block_ciphers.proofs.BitStrings.{get_or-low_bits, low_bits-lt, low_bits-is, low_bits-mod, low_bits-number, low_bits-xor, bit_at-shr, xor_of_bits}
use Rattle.block_ciphers.proofs.Permutations.{within_by_test, get_or-permuted, permuted-sum, IsBits-permuted, length-permutation}
use Rattle.block_ciphers.proofs.Laws.{AreBits, AreBits-append}
use Rattle.block_ciphers.proofs.Turns.{turned_bit}

-- the six bits that E gives to box k are those of R turned by 4k + 5 places
expansion_turns : all_below (λ k. all_below (λ j. (5 - j + (32 - (4 * k + 5) % 32)) % 32 == 31 - (get_or expansion (6 * k + j) 0 - 1)) 6) 8 ≡ true
unfolding all_below expansion
expansion_turns = refl

expansion_at : (k j : ℕ) → k < 8 → j < 6 → (5 - j + (32 - (4 * k + 5) % 32)) % 32 ≡ 31 - (get_or expansion (6 * k + j) 0 - 1)
expansion_at k j hk hj =
    eqb-true _ _ (all_below_at (λ j. (5 - j + (32 - (4 * k + 5) % 32)) % 32 == 31 - (get_or expansion (6 * k + j) 0 - 1)) 6 j
    (all_below_at (λ k. all_below (λ j. (5 - j + (32 - (4 * k + 5) % 32)) % 32 == 31 - (get_or expansion (6 * k + j) 0 - 1)) 6) 8 k expansion_turns hk) hj)

length-expansion : length expansion ≡ 48
unfolding expansion
length-expansion = refl

expansion_fits : all_below (λ i. nat_lt (get_or expansion i 0 - 1) 32) (length expansion) ≡ true
unfolding all_below expansion
expansion_fits = refl

-- what box k is given: six bits of the sum of E(R) and the round key
abbrev pub given : ℕ → ℕ → List ℕ
given right key = sum_of_bits 48 (permuted expansion (low_bits 32 right)) (low_bits 48 key)

pub sixth_bits :
    (right key k turn : ℕ) → right < 2 ^ 32 → k < 8 → turn ≡ rotate_left w32 right (4 * k + 5)
    → low_bits 6 (bit_and (bit_xor turn (key / 2 ^ (42 - 6 * k))) 63) ≡ block_at 6 (given right key) k
sixth_bits right key k turn small hk is =
    let six = bit_xor turn (key / 2 ^ (42 - 6 * k)) in
    let long : length (given right key) ≡ 48 = length-sum_of_bytes 48 (permuted expansion (low_bits 32 right)) (low_bits 48 key) in
    rw (and_mask (bit_xor turn (key / 2 ^ (42 - 6 * k))) 6, low_bits-mod 6 (bit_xor turn (key / 2 ^ (42 - 6 * k))))
    (low_bits-is 6 (bit_xor turn (key / 2 ^ (42 - 6 * k))) (block_at 6 (given right key) k) (length-take-le 6 (drop (6 * k) (given right key)) (omega (arith, length-drop (6 * k) (given right key))))
    (λ j hj.
    let p = (4 * k + 5) % 32 in
    let some : 0 < (4 * k + 5) % 32 = omega arith in
    let few : (4 * k + 5) % 32 < 32 = omega arith in
    let other : (32 - (4 * k + 5) % 32) % 32 ≡ 32 - (4 * k + 5) % 32 = omega arith in
    let place : 6 - 1 - j ≡ 5 - j = omega arith in
    let from_key : 42 - 6 * k + (5 - j) ≡ 48 - 1 - (6 * k + j) = omega arith in
    let inside : get_or expansion (6 * k + j) 0 - 1 < 32 = within_by_test 32 expansion expansion_fits (6 * k + j) (omega (arith, length-expansion)) in
    let right_bit : bit_at turn (5 - j) ≡ bit_at right (31 - (get_or expansion (6 * k + j) 0 - 1)) =
    rw (is, other) (turned_bit 32 ((4 * k + 5) % 32) 32 right (5 - j) small some few (omega arith) (omega arith) ∙ ap (bit_at right) (expansion_at k j hk hj)) in
    let computed : bit_at (bit_xor turn (key / 2 ^ (42 - 6 * k))) (5 - j) ≡ bit_xor (bit_at right (31 - (get_or expansion (6 * k + j) 0 - 1))) (bit_at key (48 - 1 - (6 * k + j))) =
    bit_at_xor turn (key / 2 ^ (42 - 6 * k)) (5 - j)
    ∙ (xor_of_bits (bit_at turn (5 - j)) (bit_at (key / 2 ^ (42 - 6 * k)) (5 - j)) (bit_at-lt turn (5 - j)) (bit_at-lt (key / 2 ^ (42 - 6 * k)) (5 - j))
    ∙ rw (right_bit, bit_at-shr key (42 - 6 * k) (5 - j), from_key) refl) in
    let defined : get_or (block_at 6 (given right key) k) j 0 ≡ bit_xor (bit_at right (32 - 1 - (get_or expansion (6 * k + j) 0 - 1))) (bit_at key (48 - 1 - (6 * k + j))) =
    get_or-take 6 (drop (6 * k) (given right key)) j 0 hj
    ∙ (get_or-drop (6 * k) (given right key) j 0
    ∙ (get_or-sum_of_bytes 48 (permuted expansion (low_bits 32 right)) (low_bits 48 key) (6 * k + j) (omega arith)
    ∙ rw (get_or-permuted expansion (low_bits 32 right) (6 * k + j) (omega (arith, length-expansion)), get_or-low_bits 32 right (get_or expansion (6 * k + j) 0 - 1) inside, get_or-low_bits 48 key (6 * k + j) (omega arith)) refl)) in
    rw place (computed ∙ sym defined)))

-- the table, for each box and each six bits
joined_table : all_below (λ k. all_below (λ g. slice_index JOINED (64 * k + g) == number (permuted permutation (placed k (selected k (low_bits 6 g))))) 64) 8 ≡ true
unfolding all_below number low_bits permuted placed selected permutation boxes box_1 box_2 box_3 box_4 box_5 box_6 box_7 box_8
joined_table = refl

AreBits-zeros : (n : ℕ) → AreBits (replicate n 0)
AreBits-zeros n i =
    elim (cases_lt i n) [
      | inl h ↦ rw (get_or-replicate {A = ℕ} n i 0 0 h) (lit< tt)
      | inr h ↦ (let past : slice_index (replicate n 0) i ≡ 0 = get_or_past {X = ℕ} (replicate n 0) i 0 (omega (arith, length-replicate {A = ℕ} n 0)) in omega arith)
    ]

AreBits-placed : (k : ℕ) (s : List ℕ) → AreBits s → AreBits (placed k s)
unfolding placed
AreBits-placed k s bits =
    AreBits-append (replicate (4 * k) 0 ++ s) (replicate (28 - 4 * k) 0) (AreBits-append (replicate (4 * k) 0) s (AreBits-zeros (4 * k)) bits) (AreBits-zeros (28 - 4 * k))

pub AreBits-selected : (k : ℕ) (s : List ℕ) → AreBits (selected k s)
unfolding selected
AreBits-selected k s = low_bits-lt 4 _

-- what the code reads in its table
pub joined_at : (k g : ℕ) (s : List ℕ) → k < 8 → g < 64 → low_bits 6 g ≡ s → low_bits 32 (slice_index JOINED (64 * k + g)) ≡ permuted permutation (placed k (selected k s))
joined_at k g s hk hg is =
    let word : slice_index JOINED (64 * k + g) ≡ number (permuted permutation (placed k (selected k (low_bits 6 g)))) =
    eqb-true _ _ (all_below_at (λ g. slice_index JOINED (64 * k + g) == number (permuted permutation (placed k (selected k (low_bits 6 g))))) 64 g
    (all_below_at (λ k. all_below (λ g. slice_index JOINED (64 * k + g) == number (permuted permutation (placed k (selected k (low_bits 6 g))))) 64) 8 k joined_table hk) hg) in
    rw (word, is)
    (low_bits-number 32 (permuted permutation (placed k (selected k s)))
    (IsBits-permuted 32 permutation (placed k (selected k s)) length-permutation (AreBits-placed k (selected k s) (AreBits-selected k s))))

-- the four bits of each box, in their places
abbrev sum_of_eight : (ℕ → List ℕ) → List ℕ
sum_of_eight a =
    sum_of_bits 32 (sum_of_bits 32 (sum_of_bits 32 (sum_of_bits 32 (sum_of_bits 32 (sum_of_bits 32 (sum_of_bits 32 (a 0) (a 1)) (a 2)) (a 3)) (a 4)) (a 5)) (a 6)) (a 7)

placed_together : (n : ℕ → ℕ) → sum_of_eight (λ k. placed k (low_bits 4 (n k)))
    ≡ low_bits 4 (n 0) ++ (low_bits 4 (n 1) ++ (low_bits 4 (n 2) ++ (low_bits 4 (n 3) ++ (low_bits 4 (n 4) ++ (low_bits 4 (n 5) ++ (low_bits 4 (n 6) ++ (low_bits 4 (n 7) ++ [])))))))
unfolding low_bits placed sum_of_bytes
placed_together n = simp (xor_zero_r, xor_zero_l) refl

selected_together : (s : List ℕ) → sum_of_eight (λ k. placed k (selected k (block_at 6 s k))) ≡ selected_by_all s
unfolding selected selected_by_all
selected_together s =
    placed_together (λ k. slice_index (get_or boxes k []) (16 * number (take 1 (block_at 6 s k) ++ drop 5 (block_at 6 s k)) + number (take 4 (drop 1 (block_at 6 s k)))))

permutation_fits : all_below (λ i. nat_lt (get_or permutation i 0 - 1) 32) (length permutation) ≡ true
unfolding all_below permutation
permutation_fits = refl

permuted_two : (a b : ℕ) (s t : List ℕ) → low_bits 32 a ≡ permuted permutation s → low_bits 32 b ≡ permuted permutation t → low_bits 32 (bit_xor a b) ≡ permuted permutation (sum_of_bits 32 s t)
permuted_two a b s t first second =
    low_bits-xor 32 a b ∙ rw (first, second) (sym (permuted-sum 32 32 permutation s t length-permutation (within_by_test 32 permutation permutation_fits)))

-- the sum of what the code reads is the cipher function
pub shares_together :
    (a b c d e f g h right key : ℕ)
    → low_bits 32 a ≡ permuted permutation (placed 0 (selected 0 (block_at 6 (given right key) 0)))
    → low_bits 32 b ≡ permuted permutation (placed 1 (selected 1 (block_at 6 (given right key) 1)))
    → low_bits 32 c ≡ permuted permutation (placed 2 (selected 2 (block_at 6 (given right key) 2)))
    → low_bits 32 d ≡ permuted permutation (placed 3 (selected 3 (block_at 6 (given right key) 3)))
    → low_bits 32 e ≡ permuted permutation (placed 4 (selected 4 (block_at 6 (given right key) 4)))
    → low_bits 32 f ≡ permuted permutation (placed 5 (selected 5 (block_at 6 (given right key) 5)))
    → low_bits 32 g ≡ permuted permutation (placed 6 (selected 6 (block_at 6 (given right key) 6)))
    → low_bits 32 h ≡ permuted permutation (placed 7 (selected 7 (block_at 6 (given right key) 7)))
    → low_bits 32 (bit_xor (bit_xor (bit_xor (bit_xor (bit_xor (bit_xor (bit_xor a b) c) d) e) f) g) h) ≡ cipher_function (low_bits 32 right) (low_bits 48 key)
unfolding cipher_function
shares_together a b c d e f g h right key pa pb pc pd pe pf pg ph =
    permuted_two _ h _ _
    (permuted_two _ g _ _ (permuted_two _ f _ _ (permuted_two _ e _ _ (permuted_two _ d _ _ (permuted_two _ c _ _ (permuted_two a b _ _ pa pb) pc) pd) pe) pf) pg) ph
    ∙ ap (permuted permutation) (selected_together (given right key))
