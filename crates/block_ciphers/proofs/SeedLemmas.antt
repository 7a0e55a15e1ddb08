-- Keys from random bytes, as the code makes them.
use Rattle.std.proofs.Common.{◌≡◌, ◌==◌, ◌<◌, ◌+◌, ◌-◌, ◌*◌, ◌/◌, ◌%◌, ◌^◌, ℕ, zero, suc, true, List, [], ◌∷◌, ◌++◌, length, get_or, take, map, slice_index, slice_set, bit_and, bit_or, bit_xor, Bool, false, if◌then◌else◌, length-set, refl, sym, ap, ◌∙◌, arith}
use Rattle.std.specs.Int.{bit_at}
use Rattle.std.specs.List.{range_with_len}
use Rattle.std.proofs.lemmas.Bool.{eqb-true}
use Rattle.std.proofs.lemmas.Nat.{and_mask}
use Rattle.std.proofs.lemmas.Nat.Bits.{bit_at_lowest, bit_at-lt}
use Rattle.std.proofs.lemmas.List.{take_at}
use Rattle.std.proofs.lemmas.List.FromFn.{fill_by_all}
use Rattle.block_ciphers.specs.Chains.{block_at}
use Rattle.block_ciphers.proofs.AllBytes.{all_below, all_below_at}
use Rattle.block_ciphers.specs.Bits.{low_bits, number, bits_of_bytes, permuted}
use Rattle.block_ciphers.specs.Seeds.{stretching, with_odd_parity, stretched, weak_keys, is_weak, mended, random_to_key}
use Rattle.block_ciphers.specs.declared.des3.seed.TheConstants.{WEAK_KEYS}
use Rattle.block_ciphers.proofs.BitStrings.{length-low_bits, low_bits-append, low_bits-number}
use Rattle.block_ciphers.proofs.Laws.{AreBits, AreBits-none}

-- the sum of the bits of a byte is the lowest bit of what the code folds it to
abbrev folded : ℕ → ℕ
folded x = let half = bit_xor x (x / 16) in let quarter = bit_xor half (half / 4) in bit_xor quarter (quarter / 2)

parity_table : all_below (λ x. bit_or (x * 2 % 256) (1 - bit_and (folded x) 1) == with_odd_parity (low_bits 7 x)) 128 ≡ true
unfolding all_below low_bits number with_odd_parity
parity_table = refl

pub parity_at : (x : ℕ) → x < 128 → bit_or (x * 2 % 256) (1 - bit_and (folded x) 1) ≡ with_odd_parity (low_bits 7 x)
parity_at x h = eqb-true _ _ (all_below_at (λ x. bit_or (x * 2 % 256) (1 - bit_and (folded x) 1) == with_odd_parity (low_bits 7 x)) 128 x parity_table h)

-- a string by its elements
pub elements : (n : ℕ) (s : List ℕ) → length s ≡ n → s ≡ map (λ i. get_or s i 0) (range_with_len 0 n)
elements n s sized = fill_by_all (λ i. get_or s i 0) s n 0 sized (λ i h. refl)

-- the upper seven bits of a byte
upper_seven : (a : ℕ) → low_bits 7 (a / 2) ≡ take 7 (low_bits 8 a)
upper_seven a = sym (rw (low_bits-append 7 1 8 a refl) (take_at (low_bits 7 (a / 2 ^ 1)) (low_bits 1 a) 7 (length-low_bits 7 (a / 2 ^ 1))))

pub AreBits-cons : (b : ℕ) (s : List ℕ) → b < 2 → AreBits s → AreBits (b ∷ s)
AreBits-cons b s first rest zero = first
AreBits-cons b s first rest (suc i) = rest i

-- the lowest bits of seven bytes
lowest_bits :
    (a b c d e f g x : ℕ) → x ≡ bit_and g 1 * 64 + bit_and f 1 * 32 + bit_and e 1 * 16 + bit_and d 1 * 8 + bit_and c 1 * 4 + bit_and b 1 * 2 + bit_and a 1
    → low_bits 7 x ≡ bit_at g 0 ∷ bit_at f 0 ∷ bit_at e 0 ∷ bit_at d 0 ∷ bit_at c 0 ∷ bit_at b 0 ∷ bit_at a 0 ∷ []
unfolding number
lowest_bits a b c d e f g x is =
    let s : List ℕ = bit_at g 0 ∷ bit_at f 0 ∷ bit_at e 0 ∷ bit_at d 0 ∷ bit_at c 0 ∷ bit_at b 0 ∷ bit_at a 0 ∷ [] in
    let bits : AreBits (bit_at g 0 ∷ bit_at f 0 ∷ bit_at e 0 ∷ bit_at d 0 ∷ bit_at c 0 ∷ bit_at b 0 ∷ bit_at a 0 ∷ []) =
    AreBits-cons (bit_at g 0) (bit_at f 0 ∷ bit_at e 0 ∷ bit_at d 0 ∷ bit_at c 0 ∷ bit_at b 0 ∷ bit_at a 0 ∷ []) (bit_at-lt g 0) (AreBits-cons (bit_at f 0) (bit_at e 0 ∷ bit_at d 0 ∷ bit_at c 0 ∷ bit_at b 0 ∷ bit_at a 0 ∷ []) (bit_at-lt f 0) (AreBits-cons (bit_at e 0) (bit_at d 0 ∷ bit_at c 0 ∷ bit_at b 0 ∷ bit_at a 0 ∷ []) (bit_at-lt e 0) (AreBits-cons (bit_at d 0) (bit_at c 0 ∷ bit_at b 0 ∷ bit_at a 0 ∷ []) (bit_at-lt d 0) (AreBits-cons (bit_at c 0) (bit_at b 0 ∷ bit_at a 0 ∷ []) (bit_at-lt c 0) (AreBits-cons (bit_at b 0) (bit_at a 0 ∷ []) (bit_at-lt b 0) (AreBits-cons (bit_at a 0) ([]) (bit_at-lt a 0) AreBits-none)))))) in
    let spelled : x ≡ number (bit_at g 0 ∷ bit_at f 0 ∷ bit_at e 0 ∷ bit_at d 0 ∷ bit_at c 0 ∷ bit_at b 0 ∷ bit_at a 0 ∷ []) =
    is ∙ rw (and_mask g 1, and_mask f 1, and_mask e 1, and_mask d 1, and_mask c 1, and_mask b 1, and_mask a 1, bit_at_lowest g, bit_at_lowest f, bit_at_lowest e, bit_at_lowest d, bit_at_lowest c, bit_at_lowest b, bit_at_lowest a) (omega arith) in
    rw spelled (low_bits-number 7 (bit_at g 0 ∷ bit_at f 0 ∷ bit_at e 0 ∷ bit_at d 0 ∷ bit_at c 0 ∷ bit_at b 0 ∷ bit_at a 0 ∷ []) (record { sized = refl; bits = bits }))

-- seven bytes stretched, as the code writes it
stretched_elements :
    (a b c d e f g x : ℕ) → x ≡ bit_and g 1 * 64 + bit_and f 1 * 32 + bit_and e 1 * 16 + bit_and d 1 * 8 + bit_and c 1 * 4 + bit_and b 1 * 2 + bit_and a 1
    → with_odd_parity (low_bits 7 (a / 2)) ∷ with_odd_parity (low_bits 7 (b / 2)) ∷ with_odd_parity (low_bits 7 (c / 2)) ∷ with_odd_parity (low_bits 7 (d / 2)) ∷ with_odd_parity (low_bits 7 (e / 2)) ∷ with_odd_parity (low_bits 7 (f / 2)) ∷ with_odd_parity (low_bits 7 (g / 2)) ∷ with_odd_parity (low_bits 7 x) ∷ []
    ≡ stretched (a ∷ b ∷ c ∷ d ∷ e ∷ f ∷ g ∷ [])
unfolding stretched stretching permuted bits_of_bytes low_bits
stretched_elements a b c d e f g x is =
    rw (lowest_bits a b c d e f g x is, upper_seven a, upper_seven b, upper_seven c, upper_seven d, upper_seven e, upper_seven f, upper_seven g) refl

pub stretched_written :
    (s : List ℕ) (x : ℕ) → length s ≡ 7 → x ≡ bit_and (get_or s 6 0) 1 * 64 + bit_and (get_or s 5 0) 1 * 32 + bit_and (get_or s 4 0) 1 * 16 + bit_and (get_or s 3 0) 1 * 8 + bit_and (get_or s 2 0) 1 * 4 + bit_and (get_or s 1 0) 1 * 2 + bit_and (get_or s 0 0) 1
    → with_odd_parity (low_bits 7 (get_or s 0 0 / 2)) ∷ with_odd_parity (low_bits 7 (get_or s 1 0 / 2)) ∷ with_odd_parity (low_bits 7 (get_or s 2 0 / 2)) ∷ with_odd_parity (low_bits 7 (get_or s 3 0 / 2)) ∷ with_odd_parity (low_bits 7 (get_or s 4 0 / 2)) ∷ with_odd_parity (low_bits 7 (get_or s 5 0 / 2)) ∷ with_odd_parity (low_bits 7 (get_or s 6 0 / 2)) ∷ with_odd_parity (low_bits 7 x) ∷ []
    ≡ stretched s
stretched_written s x sized is =
    stretched_elements (get_or s 0 0) (get_or s 1 0) (get_or s 2 0) (get_or s 3 0) (get_or s 4 0) (get_or s 5 0) (get_or s 6 0) x is ∙ ap stretched (sym (elements 7 s sized))

pub weak_table : WEAK_KEYS ≡ weak_keys
unfolding weak_keys
weak_table = refl

pub mended_weak : (key : List ℕ) (b : Bool) → b ≡ is_weak key → b ≡ true → slice_set key 7 (bit_xor (slice_index key 7) 240) ≡ mended key
unfolding mended
mended_weak key b is weak = let test : is_weak key ≡ true = sym is ∙ weak in rw test refl

pub mended_other : (key : List ℕ) (b : Bool) → b ≡ is_weak key → b ≡ false → key ≡ mended key
unfolding mended
mended_other key b is other = let test : is_weak key ≡ false = sym is ∙ other in rw test refl

pub length-stretched : (s : List ℕ) → length (stretched s) ≡ 8
unfolding stretched
length-stretched s = refl

mended_cases : (b : Bool) (key : List ℕ) → length key ≡ 8 → length (if b then slice_set key 7 (bit_xor (slice_index key 7) 0xf0) else key) ≡ 8
mended_cases true key sized = length-set key 7 (bit_xor (slice_index key 7) 0xf0) ∙ sized
mended_cases false key sized = sized

pub length-mended : (key : List ℕ) → length key ≡ 8 → length (mended key) ≡ 8
unfolding mended
length-mended key sized = mended_cases (is_weak key) key sized

-- three strings of eight bytes, written out
three_parts : (a b c : List ℕ) → length a ≡ 8 → length b ≡ 8 → length c ≡ 8
    → map (λ i. get_or a i 0) (range_with_len 0 8) ++ (map (λ i. get_or b i 0) (range_with_len 0 8) ++ (map (λ i. get_or c i 0) (range_with_len 0 8) ++ [])) ≡ a ++ (b ++ (c ++ []))
three_parts a b c ha hb hc =
    let first = elements 8 a ha in
    let second = elements 8 b hb in
    let third = elements 8 c hc in
    ap (λ (s : List ℕ). s ++ (map (λ i. get_or b i 0) (range_with_len 0 8) ++ (map (λ i. get_or c i 0) (range_with_len 0 8) ++ []))) (sym first)
    ∙ (ap (λ (s : List ℕ). a ++ (s ++ (map (λ i. get_or c i 0) (range_with_len 0 8) ++ []))) (sym second) ∙ ap (λ (s : List ℕ). a ++ (b ++ (s ++ []))) (sym third))

pub key_written : (seed a b c : List ℕ) → a ≡ mended (stretched (block_at 7 seed 0)) → b ≡ mended (stretched (block_at 7 seed 1)) → c ≡ mended (stretched (block_at 7 seed 2))
    → map (λ i. get_or a i 0) (range_with_len 0 8) ++ (map (λ i. get_or b i 0) (range_with_len 0 8) ++ (map (λ i. get_or c i 0) (range_with_len 0 8) ++ [])) ≡ random_to_key seed
unfolding random_to_key
key_written seed a b c first second third =
    three_parts a b c (ap length first ∙ long 0) (ap length second ∙ long 1) (ap length third ∙ long 2) ∙ rw (first, second, third) refl
  where
    long : (i : ℕ) → length (mended (stretched (block_at 7 seed i))) ≡ 8
    long i = length-mended (stretched (block_at 7 seed i)) (length-stretched (block_at 7 seed i))
