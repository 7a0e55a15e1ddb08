-- States as functions of row and column, and strings whose elements are bytes.
use Rattle.std.proofs.Common.{◌≡◌, ◌<◌, ◌≤◌, ◌+◌, ◌-◌, ◌*◌, ◌/◌, ◌%◌, ℕ, List, [], ◌++◌, length, get_or, take, drop, slice_index, bit_xor, refl, sym, ap, ◌∙◌, inl, inr, arith, lit<}
use Rattle.std.proofs.lemmas.Bool.{cases_lt}
use Rattle.std.proofs.lemmas.Nat.{xor_lt}
use Rattle.std.proofs.lemmas.List.{get_or_past, length-take, length-drop, ext_get_or, get_or-take, get_or-drop, get_or_append_left, get_or-append_right, length-take-le}
use Rattle.std.proofs.lemmas.List.FromFn.{get_or-map-range_with_len, length-map-range_with_len, fill_by_all}
use Rattle.block_ciphers.specs.Bytes.{IsBytes, IsBlock, sum_of_bytes}
use Rattle.block_ciphers.specs.Aes.{entry, state_of}
use Rattle.block_ciphers.proofs.Sums.{added_twice}

-- bytes below the length are enough
pub IsBytes-from_below : (s : List ℕ) (n : ℕ) → length s ≡ n → ((i : ℕ) → i < n → get_or s i 0 < 256) → IsBytes s
IsBytes-from_below s n sized below i =
    elim (cases_lt i n) [ inl h ↦ below i h | inr h ↦ (let past : get_or s i 0 ≡ 0 = get_or_past s i 0 (omega arith) in omega arith) ]

pub IsBytes-take : (n : ℕ) (s : List ℕ) → IsBytes s → IsBytes (take n s)
IsBytes-take n s bytes i =
    elim (cases_lt i n) [ inl h ↦ rw (get_or-take n s i 0 h) (bytes i) | inr h ↦ rw (get_or_past (take n s) i 0 (omega (arith, length-take n s))) (lit< tt) ]

pub IsBytes-drop : (n : ℕ) (s : List ℕ) → IsBytes s → IsBytes (drop n s)
IsBytes-drop n s bytes i = rw (get_or-drop n s i 0) (bytes (n + i))

pub IsBytes-append : (s t : List ℕ) → IsBytes s → IsBytes t → IsBytes (s ++ t)
IsBytes-append s t first second i =
    elim (cases_lt i (length s)) [ inl h ↦ rw (get_or_append_left s t 0 i h) (first i) | inr h ↦ rw (get_or-append_right s t (length s) i 0 refl h) (second (i - length s)) ]

pub IsBytes-none : IsBytes []
IsBytes-none i = lit< tt

-- a block cut out of bytes
pub IsBlock-cut : (size a : ℕ) (s : List ℕ) → IsBytes s → a + size ≤ length s → IsBlock size (take size (drop a s))
IsBlock-cut size a s bytes fits =
    record { sized = length-take-le size (drop a s) (omega (arith, length-drop a s)); bytes = IsBytes-take size (drop a s) (IsBytes-drop a s bytes) }

pub get_or-sum_of_bytes : (n : ℕ) (a b : List ℕ) (i : ℕ) → i < n → get_or (sum_of_bytes n a b) i 0 ≡ bit_xor (get_or a i 0) (get_or b i 0)
unfolding sum_of_bytes
get_or-sum_of_bytes n a b i h = get_or-map-range_with_len (λ k. bit_xor (slice_index a k) (slice_index b k)) 0 n i i 0 h (omega arith)

pub length-sum_of_bytes : (n : ℕ) (a b : List ℕ) → length (sum_of_bytes n a b) ≡ n
unfolding sum_of_bytes
length-sum_of_bytes n a b = length-map-range_with_len (λ i. bit_xor (slice_index a i) (slice_index b i)) 0 n

pub sum_of_bytes-block : (n : ℕ) (a b : List ℕ) → IsBytes a → IsBytes b → IsBlock n (sum_of_bytes n a b)
sum_of_bytes-block n a b first second =
    record {
      sized = length-sum_of_bytes n a b;
      bytes = IsBytes-from_below (sum_of_bytes n a b) n (length-sum_of_bytes n a b) (λ i h. rw (get_or-sum_of_bytes n a b i h) (xor_lt 8 (get_or a i 0) (get_or b i 0) (first i) (second i)));
    }

-- what was added twice is gone
pub sum_of_bytes-twice : (n : ℕ) (a b : List ℕ) → length a ≡ n → sum_of_bytes n (sum_of_bytes n a b) b ≡ a
sum_of_bytes-twice n a b sized =
    ext_get_or 0 (sum_of_bytes n (sum_of_bytes n a b) b) a (length-sum_of_bytes n (sum_of_bytes n a b) b ∙ sym sized)
    (λ i h.
    let within : i < n = omega (arith, length-sum_of_bytes n (sum_of_bytes n a b) b) in
    get_or-sum_of_bytes n (sum_of_bytes n a b) b i within ∙ ap (λ (x : ℕ). bit_xor x (get_or b i 0)) (get_or-sum_of_bytes n a b i within) ∙ added_twice (get_or a i 0) (get_or b i 0))

pub length-state_of : (f : ℕ → ℕ → ℕ) → length (state_of f) ≡ 16
length-state_of f = length-map-range_with_len (λ k. f (k % 4) (k / 4)) 0 16

pub entry-state_of : (f : ℕ → ℕ → ℕ) (r c : ℕ) → r < 4 → c < 4 → entry (state_of f) r c ≡ f r c
entry-state_of f r c row column =
    let at_row : (r + 4 * c) % 4 ≡ r = omega arith in
    let at_column : (r + 4 * c) / 4 ≡ c = omega arith in
    get_or-map-range_with_len (λ k. f (k % 4) (k / 4)) 0 16 (r + 4 * c) (r + 4 * c) 0 (omega arith) (omega arith) ∙ rw (at_row, at_column) refl

-- a state is the one with these entries
pub state_of_entries : (f : ℕ → ℕ → ℕ) (s : List ℕ) → length s ≡ 16 → ((r c : ℕ) → r < 4 → c < 4 → f r c ≡ entry s r c) → state_of f ≡ s
state_of_entries f s sized same =
    sym (fill_by_all (λ k. f (k % 4) (k / 4)) s 16 0 sized
    (λ k h.
    let place : k % 4 + 4 * (k / 4) ≡ k = omega arith in
    sym (same (k % 4) (k / 4) (omega arith) (omega arith) ∙ ap (λ (i : ℕ). get_or s i 0) place)))

pub state_of-block : (f : ℕ → ℕ → ℕ) → ((r c : ℕ) → r < 4 → c < 4 → f r c < 256) → IsBlock 16 (state_of f)
state_of-block f small =
    record {
      sized = length-state_of f;
      bytes = IsBytes-from_below (state_of f) 16 (length-state_of f)
          (λ k h. rw (get_or-map-range_with_len (λ k. f (k % 4) (k / 4)) 0 16 k k 0 h (omega arith)) (small (k % 4) (k / 4) (omega arith) (omega arith)));
    }
