-- Keys from random bytes have bytes of odd parity, and no part of them is weak.
use Rattle.std.proofs.Common.{◌≡◌, ◌==◌, ◌<◌, ◌+◌, ◌*◌, ◌%◌, ℕ, zero, suc, Bool, true, false, not, List, [], ◌∷◌, ◌++◌, length, get_or, drop, slice_index, slice_set, bit_xor, if◌then◌else◌, IsTrue, All, length-set, refl, sym, ap, ◌∙◌, ◌⊎◌, ◌&&◌, ◌||◌, inl, inr, arith, lit<}
use Rattle.std.specs.Prelude.{sum}
use Rattle.std.specs.List.{list_all, list_any}
use Rattle.std.specs.Str.{bytes_eq}
use Rattle.std.proofs.lemmas.Bool.{cases_eq, cases_lt, eqb-true, false≢true}
use Rattle.std.proofs.lemmas.Grind.{get_or-set_at}
use Rattle.std.proofs.lemmas.Nat.{xor_lt}
use Rattle.std.proofs.lemmas.List.{append_assoc, append-nil, get_or-set_other, get_or_past, take_at, drop_at, length-append, length-take-le, length-drop}
use Rattle.std.proofs.lemmas.List.FromFn.{get_or-map-range_with_len}
use Rattle.std.proofs.lemmas.List.Elements.{All-append, All-set, All-from_get_or}
use Rattle.std.proofs.lemmas.List.Sums.{sum_by_push}
use Rattle.std.proofs.lemmas.Slice.Eq.{bytes_eq-Decides}
use Rattle.block_ciphers.specs.Bytes.{IsBytes}
use Rattle.block_ciphers.specs.Chains.{block_at}
use Rattle.block_ciphers.proofs.States.{IsBytes-append, IsBytes-from_below}
use Rattle.block_ciphers.proofs.AllBytes.{all_below, all_below_at}
use Rattle.block_ciphers.specs.Bits.{low_bits, bits_of_bytes, permuted}
use Rattle.block_ciphers.specs.Des.{part}
use Rattle.block_ciphers.specs.Seeds.{HasOddParity, stretching, with_odd_parity, stretched, weak_keys, is_weak, mended, random_to_key}
use Rattle.block_ciphers.proofs.BitStrings.{IsBits, low_bits-number, number-lt}
use Rattle.block_ciphers.proofs.Permutations.{IsBits-permuted}
use Rattle.block_ciphers.proofs.Laws.{AreBits, AreBits-append, AreBits-take, AreBits-drop, AreBits-none, AreBits-bits_of_bytes}
use Rattle.block_ciphers.proofs.SeedLemmas.{AreBits-cons, length-stretched, length-mended}

-- a byte made of seven bits
with_odd_parity-odd : (s : List ℕ) → IsBits 7 s → HasOddParity (with_odd_parity s)
unfolding with_odd_parity
with_odd_parity-odd s bits =
    let p = (sum s + 1) % 2 in
    let last : AreBits ((sum s + 1) % 2 ∷ []) = AreBits-cons ((sum s + 1) % 2) [] (omega arith) AreBits-none in
    let eight : IsBits 8 (s ++ (sum s + 1) % 2 ∷ []) =
    record { sized = length-append s ((sum s + 1) % 2 ∷ []) ∙ ap (λ (n : ℕ). n + 1) bits.sized; bits = AreBits-append s ((sum s + 1) % 2 ∷ []) bits.bits last } in
    rw (low_bits-number 8 (s ++ (sum s + 1) % 2 ∷ []) eight, sum_by_push (λ x. x) s ((sum s + 1) % 2)) (omega arith)

length-stretching : length stretching ≡ 56
unfolding stretching
length-stretching = refl

-- the seven bits of a stretched byte
seven_of : (s : List ℕ) (i : ℕ) → i < 8 → IsBits 7 (block_at 7 (permuted stretching (bits_of_bytes s)) i)
seven_of s i few =
    let all : IsBits 56 (permuted stretching (bits_of_bytes s)) = IsBits-permuted 56 stretching (bits_of_bytes s) length-stretching (AreBits-bits_of_bytes s) in
    record {
      sized = length-take-le 7 (drop (7 * i) (permuted stretching (bits_of_bytes s))) (omega (arith, all.sized, length-drop (7 * i) (permuted stretching (bits_of_bytes s))));
      bits = AreBits-take 7 (drop (7 * i) (permuted stretching (bits_of_bytes s))) (AreBits-drop (7 * i) (permuted stretching (bits_of_bytes s)) all.bits);
    }

get_or-stretched : (s : List ℕ) (i : ℕ) → i < 8 → get_or (stretched s) i 0 ≡ with_odd_parity (block_at 7 (permuted stretching (bits_of_bytes s)) i)
unfolding stretched
get_or-stretched s i few = get_or-map-range_with_len (λ i. with_odd_parity (block_at 7 (permuted stretching (bits_of_bytes s)) i)) 0 8 i i 0 few (omega arith)

stretched-odd : (s : List ℕ) → All HasOddParity (stretched s)
stretched-odd s =
    All-from_get_or HasOddParity (stretched s) 0
    (λ i h.
    let few : i < 8 = omega (arith, length-stretched s) in
    rw (get_or-stretched s i few) (with_odd_parity-odd (block_at 7 (permuted stretching (bits_of_bytes s)) i) (seven_of s i few)))

-- F0 changes four bits
same_parity : all_below (λ x. sum (low_bits 8 (bit_xor x 240)) % 2 == sum (low_bits 8 x) % 2) 256 ≡ true
unfolding all_below low_bits
same_parity = refl

changed-odd : (x : ℕ) → x < 256 → HasOddParity x → HasOddParity (bit_xor x 240)
changed-odd x small odd = eqb-true _ _ (all_below_at (λ x. sum (low_bits 8 (bit_xor x 240)) % 2 == sum (low_bits 8 x) % 2) 256 x same_parity small) ∙ odd

mended_odd_cases : (b : Bool) (key : List ℕ) → length key ≡ 8 → slice_index key 7 < 256 → All HasOddParity key → All HasOddParity (if b then slice_set key 7 (bit_xor (slice_index key 7) 0xf0) else key)
mended_odd_cases true key sized small odd = All-set HasOddParity key 7 (bit_xor (slice_index key 7) 0xf0) (changed-odd (slice_index key 7) small (odd 7 0 (omega arith))) odd
mended_odd_cases false key sized small odd = odd

mended-odd : (key : List ℕ) → length key ≡ 8 → slice_index key 7 < 256 → All HasOddParity key → All HasOddParity (mended key)
unfolding mended
mended-odd key = mended_odd_cases (is_weak key) key

-- a weak key is no longer weak once it is mended
weak_keys_mended : list_all (λ weak. not (is_weak (slice_set weak 7 (bit_xor (slice_index weak 7) 0xf0)))) weak_keys ≡ true
unfolding is_weak weak_keys
weak_keys_mended = refl

both : (a b : Bool) → (a && b) ≡ true → (a ≡ true) × (b ≡ true)
both true b e = (refl, e)
both false b e = cc

either : (a b : Bool) → (a || b) ≡ true → (a ≡ true) ⊎ (b ≡ true)
either true b e = inl refl
either false b e = inr e

-- what holds of each of some lists holds of one that is among them
of_any : (p : List ℕ → Bool) (ws : List (List ℕ)) (key : List ℕ) → list_all p ws ≡ true → list_any (λ w. bytes_eq w key) ws ≡ true → p key ≡ true
of_any p [] key all any = absurd (false≢true any)
of_any p (w ∷ ws) key all any =
    let parts = both (p w) (list_all p ws) all in
    elim (either (bytes_eq w key) (list_any (λ w. bytes_eq w key) ws) any) [
      | inl same ↦ (let is : w ≡ key = (bytes_eq-Decides w key).0 same in rw is at parts.0)
      | inr other ↦ of_any p ws key parts.1 other
    ]

not_true : (b : Bool) → not b ≡ true → b ≡ false
not_true true e = cc
not_true false e = refl

mended_strong_cases : (b : Bool) (key : List ℕ) → b ≡ is_weak key → is_weak (if b then slice_set key 7 (bit_xor (slice_index key 7) 0xf0) else key) ≡ false
unfolding is_weak
mended_strong_cases true key is =
    not_true _ (of_any (λ weak. not (is_weak (slice_set weak 7 (bit_xor (slice_index weak 7) 0xf0)))) weak_keys key weak_keys_mended (sym is))
mended_strong_cases false key is = sym is

mended-strong : (key : List ℕ) → is_weak (mended key) ≡ false
unfolding mended
mended-strong key = mended_strong_cases (is_weak key) key refl

-- the three parts of a key
made : List ℕ → ℕ → List ℕ
made seed i = mended (stretched (block_at 7 seed i))

length-made : (seed : List ℕ) (i : ℕ) → length (made seed i) ≡ 8
unfolding made
length-made seed i = length-mended (stretched (block_at 7 seed i)) (length-stretched (block_at 7 seed i))

three_made : (seed : List ℕ) → random_to_key seed ≡ made seed 0 ++ (made seed 1 ++ (made seed 2 ++ []))
unfolding made random_to_key
three_made seed = refl

made-strong : (seed : List ℕ) (i : ℕ) → is_weak (made seed i) ≡ false
unfolding made
made-strong seed i = mended-strong (stretched (block_at 7 seed i))

-- the bytes of a stretched key are below 256
with_odd_parity-lt : (s : List ℕ) → IsBits 7 s → with_odd_parity s < 256
unfolding with_odd_parity
with_odd_parity-lt s bits =
    let last : AreBits ((sum s + 1) % 2 ∷ []) = AreBits-cons ((sum s + 1) % 2) [] (omega arith) AreBits-none in
    let long : length (s ++ (sum s + 1) % 2 ∷ []) ≡ 8 = length-append s ((sum s + 1) % 2 ∷ []) ∙ ap (λ (n : ℕ). n + 1) bits.sized in
    rw long at (number-lt (s ++ (sum s + 1) % 2 ∷ []) (AreBits-append s ((sum s + 1) % 2 ∷ []) bits.bits last))

stretched-lt : (s : List ℕ) (i : ℕ) → i < 8 → slice_index (stretched s) i < 256
stretched-lt s i few = rw (get_or-stretched s i few) (with_odd_parity-lt (block_at 7 (permuted stretching (bits_of_bytes s)) i) (seven_of s i few))

made-odd : (seed : List ℕ) (i : ℕ) → All HasOddParity (made seed i)
unfolding made
made-odd seed i =
    mended-odd (stretched (block_at 7 seed i)) (length-stretched (block_at 7 seed i)) (stretched-lt (block_at 7 seed i) 7 (lit< tt)) (stretched-odd (block_at 7 seed i))

pub random_to_key-odd : (seed key : List ℕ) → key ≡ random_to_key seed → All HasOddParity key
random_to_key-odd seed key is =
    rw (is, three_made seed)
    (All-append HasOddParity (made seed 0) (made seed 1 ++ (made seed 2 ++ [])) (made-odd seed 0)
    (All-append HasOddParity (made seed 1) (made seed 2 ++ []) (made-odd seed 1) (rw (append-nil (made seed 2)) (made-odd seed 2))))

part_made : (seed : List ℕ) (i : ℕ) → i < 3 → part (random_to_key seed) i ≡ made seed i
part_made seed zero few = rw (three_made seed) (take_at (made seed 0) (made seed 1 ++ (made seed 2 ++ [])) 8 (length-made seed 0))
part_made seed (suc zero) few =
    rw (three_made seed, drop_at (made seed 0) (made seed 1 ++ (made seed 2 ++ [])) 8 (length-made seed 0)) (take_at (made seed 1) (made seed 2 ++ []) 8 (length-made seed 1))
part_made seed (suc (suc zero)) few =
    let front : length (made seed 0 ++ made seed 1) ≡ 16 = omega (arith, length-append (made seed 0) (made seed 1), length-made seed 0, length-made seed 1) in
    rw (three_made seed, sym (append_assoc (made seed 0) (made seed 1) (made seed 2 ++ [])), drop_at (made seed 0 ++ made seed 1) (made seed 2 ++ []) 16 front) (take_at (made seed 2) [] 8 (length-made seed 2))
part_made seed (suc (suc (suc i))) few = absurd (omega arith)

pub random_to_key-strong : (seed key : List ℕ) (i : ℕ) → key ≡ random_to_key seed → i < 3 → IsTrue (is_weak (part key i)) → ⊥
random_to_key-strong seed key i is few weak =
    let strong : is_weak (made seed i) ≡ false = made-strong seed i in
    false≢true (sym strong ∙ (rw (is, part_made seed i few) at weak))

-- a key is 24 bytes
pub length-random_to_key : (seed : List ℕ) → length (random_to_key seed) ≡ 24
length-random_to_key seed =
    rw (three_made seed, append-nil (made seed 2))
    (omega (arith, length-append (made seed 0) (made seed 1 ++ made seed 2), length-append (made seed 1) (made seed 2), length-made seed 0, length-made seed 1, length-made seed 2))

mended_bytes_cases : (b : Bool) (key : List ℕ) → IsBytes key → IsBytes (if b then slice_set key 7 (bit_xor (slice_index key 7) 0xf0) else key)
mended_bytes_cases true key bytes i =
    elim (cases_eq i 7) [
      | inl same ↦ elim (cases_lt 7 (length key)) [
        | inl inside ↦ rw (get_or-set_at key 7 i (bit_xor (slice_index key 7) 0xf0) 0 same inside) (xor_lt 8 (slice_index key 7) 0xf0 (bytes 7) (lit< tt))
        | inr past ↦ rw (get_or_past (slice_set key 7 (bit_xor (slice_index key 7) 0xf0)) i 0 (omega (arith, length-set key 7 (bit_xor (slice_index key 7) 0xf0)))) (lit< tt)
      ]
      | inr other ↦ rw (get_or-set_other key 7 i (bit_xor (slice_index key 7) 0xf0) 0 other) (bytes i)
    ]
mended_bytes_cases false key bytes i = bytes i

made-bytes : (seed : List ℕ) (i : ℕ) → IsBytes (made seed i)
unfolding made mended
made-bytes seed i =
    let s : List ℕ = block_at 7 seed i in
    mended_bytes_cases (is_weak (stretched s)) (stretched s) (IsBytes-from_below (stretched s) 8 (length-stretched s) (λ k h. stretched-lt s k h))

pub random_to_key-bytes : (seed : List ℕ) → IsBytes (random_to_key seed)
random_to_key-bytes seed =
    rw (three_made seed, append-nil (made seed 2))
    (IsBytes-append (made seed 0) (made seed 1 ++ made seed 2) (made-bytes seed 0) (IsBytes-append (made seed 1) (made seed 2) (made-bytes seed 1) (made-bytes seed 2)))
