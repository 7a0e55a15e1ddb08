-- Permutations by tables.
use Rattle.std.proofs.Common.{◌≡◌, ◌<◌, ◌+◌, ◌-◌, ℕ, true, List, length, get_or, slice_index, nat_lt, refl, sym, ◌∙◌, inl, inr, arith}
use Rattle.std.specs.List.{range_with_len}
use Rattle.std.proofs.lemmas.Bool.{cases_lt, ltb-true}
use Rattle.std.proofs.lemmas.List.{ext_get_or, get_or_past, get_or-map, length-map}
use Rattle.std.proofs.lemmas.List.FromFn.{get_or-range_with_len, length-range_with_len}
use Rattle.block_ciphers.proofs.AllBytes.{all_below, all_below_at}
use Rattle.block_ciphers.proofs.States.{get_or-sum_of_bytes, length-sum_of_bytes}
use Rattle.block_ciphers.proofs.BitStrings.{IsBits}
use Rattle.block_ciphers.specs.Bits.{permuted, sum_of_bits}
use Rattle.block_ciphers.specs.Tables.{initial_permutation, final_permutation, permutation}

pub length-permuted : (table s : List ℕ) → length (permuted table s) ≡ length table
unfolding permuted
length-permuted table s = length-map table (λ place. slice_index s (place - 1))

pub get_or-permuted : (table s : List ℕ) (i : ℕ) → i < length table → get_or (permuted table s) i 0 ≡ get_or s (get_or table i 0 - 1) 0
unfolding permuted
get_or-permuted table s i h = get_or-map (λ place. slice_index s (place - 1)) table i 0 0 h

-- each place of a table is in a string of n bits
abbrev pub within : ℕ → List ℕ → Type 0
within n table = (i : ℕ) → i < length table → get_or table i 0 - 1 < n

pub within_by_test : (n : ℕ) (table : List ℕ) → all_below (λ i. nat_lt (get_or table i 0 - 1) n) (length table) ≡ true → within n table
within_by_test n table test i h = ltb-true _ _ (all_below_at (λ i. nat_lt (get_or table i 0 - 1) n) (length table) i test h)

-- two permutations in turn are one
pub permuted-permuted : (t u s : List ℕ) → within (length u) t → permuted t (permuted u s) ≡ permuted (permuted t u) s
permuted-permuted t u s inside =
    ext_get_or 0 (permuted t (permuted u s)) (permuted (permuted t u) s)
    (length-permuted t (permuted u s) ∙ sym (length-permuted (permuted t u) s ∙ length-permuted t u))
    (λ i h.
    let here : i < length t = omega (arith, length-permuted t (permuted u s)) in
    get_or-permuted t (permuted u s) i here ∙ get_or-permuted u s (get_or t i 0 - 1) (inside i here)
    ∙ sym (get_or-permuted (permuted t u) s i (omega (arith, length-permuted t u)) ∙ rw (get_or-permuted t u i here) refl))

-- the places 1, 2 and so on in their order
pub permuted-range : (n : ℕ) (s : List ℕ) → length s ≡ n → permuted (range_with_len 1 n) s ≡ s
permuted-range n s sized =
    ext_get_or 0 (permuted (range_with_len 1 n) s) s (length-permuted (range_with_len 1 n) s ∙ length-range_with_len 1 n ∙ sym sized)
    (λ i h.
    let here : i < n = omega (arith, length-permuted (range_with_len 1 n) s, length-range_with_len 1 n) in
    let back : 1 + i - 1 ≡ i = omega arith in
    get_or-permuted (range_with_len 1 n) s i (omega (arith, length-range_with_len 1 n)) ∙ rw (get_or-range_with_len 1 n i 0 here, back) refl)

-- a permutation of a sum
pub permuted-sum : (m n : ℕ) (t a b : List ℕ) → length t ≡ m → within n t → permuted t (sum_of_bits n a b) ≡ sum_of_bits m (permuted t a) (permuted t b)
permuted-sum m n t a b sized inside =
    ext_get_or 0 (permuted t (sum_of_bits n a b)) (sum_of_bits m (permuted t a) (permuted t b))
    (length-permuted t (sum_of_bits n a b) ∙ sized ∙ sym (length-sum_of_bytes m (permuted t a) (permuted t b)))
    (λ i h.
    let here : i < length t = omega (arith, length-permuted t (sum_of_bits n a b)) in
    get_or-permuted t (sum_of_bits n a b) i here ∙ get_or-sum_of_bytes n a b (get_or t i 0 - 1) (inside i here)
    ∙ sym (get_or-sum_of_bytes m (permuted t a) (permuted t b) i (omega arith) ∙ rw (get_or-permuted t a i here, get_or-permuted t b i here) refl))

pub IsBits-permuted : (n : ℕ) (t s : List ℕ) → length t ≡ n → ((i : ℕ) → slice_index s i < 2) → IsBits n (permuted t s)
IsBits-permuted n t s sized bits =
    record {
      sized = length-permuted t s ∙ sized;
      bits =
          λ i.
          elim (cases_lt i (length t)) [
            | inl h ↦ rw (get_or-permuted t s i h) (bits (get_or t i 0 - 1))
            | inr h ↦ (let past : get_or (permuted t s) i 0 ≡ 0 = get_or_past (permuted t s) i 0 (omega (arith, length-permuted t s)) in omega arith)
          ];
    }

-- IP and the permutation after the rounds undo each other
final_within : all_below (λ i. nat_lt (get_or final_permutation i 0 - 1) (length initial_permutation)) (length final_permutation) ≡ true
unfolding all_below final_permutation initial_permutation
final_within = refl

initial_within : all_below (λ i. nat_lt (get_or initial_permutation i 0 - 1) (length final_permutation)) (length initial_permutation) ≡ true
unfolding all_below final_permutation initial_permutation
initial_within = refl

final_of_initial : permuted final_permutation initial_permutation ≡ range_with_len 1 64
unfolding permuted final_permutation initial_permutation
final_of_initial = refl

initial_of_final : permuted initial_permutation final_permutation ≡ range_with_len 1 64
unfolding permuted final_permutation initial_permutation
initial_of_final = refl

pub final-initial : (s : List ℕ) → length s ≡ 64 → permuted final_permutation (permuted initial_permutation s) ≡ s
final-initial s sized =
    permuted-permuted final_permutation initial_permutation s (within_by_test (length initial_permutation) final_permutation final_within)
    ∙ rw final_of_initial (permuted-range 64 s sized)

pub initial-final : (s : List ℕ) → length s ≡ 64 → permuted initial_permutation (permuted final_permutation s) ≡ s
initial-final s sized =
    permuted-permuted initial_permutation final_permutation s (within_by_test (length final_permutation) initial_permutation initial_within)
    ∙ rw initial_of_final (permuted-range 64 s sized)

pub length-initial : length initial_permutation ≡ 64
unfolding initial_permutation
length-initial = refl

pub length-final : length final_permutation ≡ 64
unfolding final_permutation
length-final = refl

pub length-permutation : length permutation ≡ 32
unfolding permutation
length-permutation = refl
