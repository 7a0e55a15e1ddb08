-- The steps of the code's loops.
use Rattle.std.proofs.Common.{◌≡◌, ◌<◌, ◌≤◌, ◌+◌, ◌-◌, ◌*◌, ◌/◌, ◌%◌, ◌^◌, ℕ, List, [], ◌∷◌, ◌++◌, length, get_or, take, drop, slice_index, bit_and, bit_or, bit_xor, refl, sym, ap, ◌∙◌, ◌⊎◌, inl, inr, arith, Bool, true, false, ◌&&◌, nat_lt, nat_le, IsTrue}
use Rattle.std.specs.List.{list_all}
use Rattle.std.proofs.lemmas.List.Folds.{list_all_at}
use Rattle.std.proofs.lemmas.Bool.{false≢true}
use Rattle.std.proofs.lemmas.Bool.Decides.{nat_tests}
use Rattle.std.specs.Int.{bit_at}
use Rattle.std.proofs.lemmas.Nat.{or_shifted, mod-pow-add, shl-shr}
use Rattle.std.proofs.lemmas.Nat.Bits.{shr_and_one, bit_at-lt}
use Rattle.std.proofs.lemmas.List.{map_more, drop_more, take_all, drop_all}
use Rattle.block_ciphers.specs.Bits.{low_bits, permuted, strings}
use Rattle.block_ciphers.specs.Des.{cipher_function, exchanged, network, round, rounds}
use Rattle.block_ciphers.proofs.BitStrings.{length-low_bits, get_or-low_bits, low_bits-same, low_bits-cat, low_bits-xor, bit_at-mod}
use Rattle.block_ciphers.proofs.Feistel.{round_of, exchanged_of}

-- a number shifted by one place in a word of 64 bits
shifted_once : (a : ℕ) → a * 2 ^ 1 % 2 ^ 64 ≡ a % 2 ^ 63 * 2 ^ 1
shifted_once a = mod-pow-add (a * 2 ^ 1) 63 1 ∙ (let back : a * 2 ^ 1 / 2 ^ 1 ≡ a = shl-shr a 1 in let none : a * 2 ^ 1 % 2 ^ 1 ≡ 0 = omega arith in rw (back, none) (omega arith))

-- a string with one bit more
one_more_bit : (n a b : ℕ) → n ≤ 63 → b < 2 → low_bits (n + 1) (bit_or (a * 2 ^ 1 % 2 ^ 64) b) ≡ low_bits n a ++ b ∷ []
unfolding low_bits
one_more_bit n a b room small =
    let last : bit_at b 0 ≡ b = omega arith in
    rw (shifted_once a, or_shifted (a % 2 ^ 63) 1 b small, low_bits-cat n 1 (a % 2 ^ 63) b small, low_bits-same n (a % 2 ^ 63) a (λ i h. bit_at-mod a 63 i (omega arith)), last) refl

-- what the test of a table says of one of its places
tested : (place width : ℕ) → (nat_lt 0 place && nat_le place width) ≡ true → (0 < place) × (place ≤ width)
tested place width e = grind (arith, nat_tests)

true_or_false : (b : Bool) → (b ≡ true) ⊎ (b ≡ false)
true_or_false true = inl refl
true_or_false false = inr refl

pub place_fits : (width : ℕ) (table : List ℕ) (i : ℕ) → i < length table → IsTrue (list_all (λ place. nat_lt 0 place && nat_le place width) table) → (0 < get_or table i 0) × (get_or table i 0 ≤ width)
place_fits width table i inside all =
    elim (true_or_false (nat_lt 0 (get_or table i 0) && nat_le (get_or table i 0) width)) [
      | inl passed ↦ tested (get_or table i 0) width passed
      | inr failed ↦ (let none : list_all (λ place. nat_lt 0 place && nat_le place width) table ≡ false = list_all_at (λ place. nat_lt 0 place && nat_le place width) table i 0 inside failed in let both : false ≡ true = rw none at all in absurd (false≢true both))
    ]

-- one place more of a table
pub one_more_place :
    (table : List ℕ) (i width acc string place : ℕ) → i < length table → length table ≤ 64 → place ≡ get_or table i 0 → 0 < place → place ≤ width
    → low_bits i acc ≡ permuted (take i table) (low_bits width string)
    → low_bits (i + 1) (bit_or (acc * 2 ^ 1 % 2 ^ 64) (bit_and (string / 2 ^ (width - place)) 1)) ≡ permuted (take (i + 1) table) (low_bits width string)
unfolding permuted
one_more_place table i width acc string place inside room is some fits so_far =
    let at_place : slice_index (low_bits width string) (place - 1) ≡ bit_at string (width - place) =
    get_or-low_bits width string (place - 1) (omega arith) ∙ (let same : width - 1 - (place - 1) ≡ width - place = omega arith in rw same refl) in
    rw (shr_and_one string (width - place), map_more (λ place. slice_index (low_bits width string) (place - 1)) table i 0 inside, sym is, at_place, sym so_far)
    (one_more_bit i acc (bit_at string (width - place)) (omega arith) (bit_at-lt string (width - place)))

-- all places of a table
pub all_places : (table : List ℕ) (i width acc string : ℕ) → i ≡ length table → low_bits i acc ≡ permuted (take i table) (low_bits width string) → low_bits (length table) acc ≡ permuted table (low_bits width string)
all_places table i width acc string at_end so_far =
    let all : take i table ≡ table = take_all i table (omega arith) in
    rw (sym at_end) (so_far ∙ rw all refl)

rounds-cons : (f : List ℕ → List ℕ → List ℕ) (k : List ℕ) (keys : List (List ℕ)) (s : List ℕ) → rounds f (k ∷ keys) s ≡ rounds f keys (round f k s)
unfolding rounds
rounds-cons f k keys s = refl

-- one round more
pub one_more_round :
    (keys : List ℕ) (i key left right next changed : ℕ) → i < length keys → key ≡ get_or keys i 0 → low_bits 32 changed ≡ cipher_function (low_bits 32 right) (low_bits 48 key) → next ≡ bit_xor left changed
    → rounds cipher_function (strings 48 (drop i keys)) (low_bits 32 left ++ low_bits 32 right)
    ≡ rounds cipher_function (strings 48 (drop (i + 1) keys)) (low_bits 32 right ++ low_bits 32 next)
one_more_round keys i key left right next changed inside is by_function sum =
    rw (drop_more keys i 0 inside, sym is, rounds-cons cipher_function (low_bits 48 key) (strings 48 (drop (i + 1) keys)) (low_bits 32 left ++ low_bits 32 right), round_of cipher_function (low_bits 48 key) (low_bits 32 left) (low_bits 32 right) (length-low_bits 32 left), sum, low_bits-xor 32 left changed, by_function) refl

-- the rounds at their end
pub all_rounds :
    (keys : List ℕ) (i left right : ℕ) (start : List ℕ) → length keys ≤ i
    → rounds cipher_function (strings 48 (drop i keys)) (low_bits 32 left ++ low_bits 32 right) ≡ rounds cipher_function (strings 48 keys) start
    → low_bits 32 right ++ low_bits 32 left ≡ network cipher_function (strings 48 keys) start
unfolding rounds
all_rounds keys i left right start at_end so_far =
    let over : low_bits 32 left ++ low_bits 32 right ≡ rounds cipher_function (strings 48 keys) start = rw (drop_all i keys at_end) at so_far in
    sym (ap exchanged (sym over) ∙ exchanged_of (low_bits 32 left) (low_bits 32 right) (length-low_bits 32 left))
