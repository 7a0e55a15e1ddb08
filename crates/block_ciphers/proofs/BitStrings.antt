-- Strings of bits, the numbers that they spell, and strings of bytes.
use Rattle.std.proofs.Common.{◌≡◌, ◌<◌, ◌+◌, ◌-◌, ◌*◌, ◌/◌, ◌%◌, ◌^◌, ℕ, zero, suc, List, [], ◌∷◌, ◌++◌, length, get_or, slice_index, bit_xor, refl, sym, ap, ◌∙◌, inl, inr, arith}
use Rattle.std.specs.Int.{bit_at}
use Rattle.std.proofs.lemmas.Bool.{cases_lt}
use Rattle.std.proofs.lemmas.Nat.{shr-shr, shr_split, mod-pow-add, pow-add}
use Rattle.std.proofs.lemmas.Nat.Bits.{bit_at_xor, bit_at-lt, bit_at_cat_low, bit_at_cat_high}
use Rattle.std.proofs.lemmas.List.{ext_get_or, get_or_past}
use Rattle.block_ciphers.proofs.States.{get_or-sum_of_bytes, length-sum_of_bytes}
use Rattle.block_ciphers.specs.Bits.{low_bits, number, sum_of_bits}

-- a string of n bits
pub record IsBits (n : ℕ) (s : List ℕ) : Type 0 where
  pub sized : length s ≡ n
  pub bits : (i : ℕ) → slice_index s i < 2

pub length-low_bits : (n x : ℕ) → length (low_bits n x) ≡ n
unfolding low_bits
length-low_bits zero x = refl
length-low_bits (suc n) x = ap suc (length-low_bits n x)

pub get_or-low_bits : (n x i : ℕ) → i < n → get_or (low_bits n x) i 0 ≡ bit_at x (n - 1 - i)
unfolding low_bits
get_or-low_bits zero x i h = absurd (omega arith)
get_or-low_bits (suc n) x zero h = let place : suc n - 1 - 0 ≡ n = omega arith in rw place refl
get_or-low_bits (suc n) x (suc i) h =
    let place : suc n - 1 - suc i ≡ n - 1 - i = omega arith in
    rw place (get_or-low_bits n x i (omega arith))

-- each element is 0 or 1
pub low_bits-lt : (n x i : ℕ) → get_or (low_bits n x) i 0 < 2
low_bits-lt n x i =
    elim (cases_lt i n) [
      | inl h ↦ rw (get_or-low_bits n x i h) (bit_at-lt x (n - 1 - i))
      | inr h ↦ (let past : get_or (low_bits n x) i 0 ≡ 0 = get_or_past (low_bits n x) i 0 (omega (arith, length-low_bits n x)) in omega arith)
    ]

pub IsBits-low_bits : (n x : ℕ) → IsBits n (low_bits n x)
IsBits-low_bits n x = record { sized = length-low_bits n x; bits = low_bits-lt n x }

-- the string whose elements are the number's bits
pub low_bits-is : (n x : ℕ) (s : List ℕ) → length s ≡ n → ((i : ℕ) → i < n → bit_at x (n - 1 - i) ≡ get_or s i 0) → low_bits n x ≡ s
low_bits-is n x s sized same =
    ext_get_or 0 (low_bits n x) s (length-low_bits n x ∙ sym sized)
    (λ i h. let within : i < n = omega (arith, length-low_bits n x) in get_or-low_bits n x i within ∙ same i within)

-- numbers with the same low bits
pub low_bits-same : (n x y : ℕ) → ((i : ℕ) → i < n → bit_at x i ≡ bit_at y i) → low_bits n x ≡ low_bits n y
unfolding low_bits
low_bits-same zero x y same = refl
low_bits-same (suc n) x y same = rw (same n (omega arith), low_bits-same n x y (λ i h. same i (omega arith))) refl

pub bit_at-shr : (x n i : ℕ) → bit_at (x / 2 ^ n) i ≡ bit_at x (n + i)
bit_at-shr x n i = rw (shr-shr x n i) refl

pub bit_at-mod : (x n i : ℕ) → i < n → bit_at (x % 2 ^ n) i ≡ bit_at x i
bit_at-mod x n i h = sym (bit_at_cat_low (x / 2 ^ n) n (x % 2 ^ n) i h) ∙ ap (λ (y : ℕ). bit_at y i) (shr_split x n)

pub low_bits-mod : (n x : ℕ) → low_bits n (x % 2 ^ n) ≡ low_bits n x
low_bits-mod n x = low_bits-same n (x % 2 ^ n) x (λ i h. bit_at-mod x n i h)

-- a string cut in two
pub low_bits-append : (m n k x : ℕ) → k ≡ m + n → low_bits k x ≡ low_bits m (x / 2 ^ n) ++ low_bits n x
unfolding low_bits
low_bits-append zero n k x e = let same : k ≡ n = omega arith in rw same refl
low_bits-append (suc m) n k x e =
    let next : k ≡ suc (m + n) = omega arith in
    let place : n + m ≡ m + n = omega arith in
    rw (next, low_bits-append m n (m + n) x refl, bit_at-shr x n m, place) refl

-- the number that is written in two parts
pub low_bits-cat : (m n a b : ℕ) → b < 2 ^ n → low_bits (m + n) (a * 2 ^ n + b) ≡ low_bits m a ++ low_bits n b
low_bits-cat m n a b small =
    low_bits-append m n (m + n) (a * 2 ^ n + b) refl
    ∙ rw (low_bits-same m ((a * 2 ^ n + b) / 2 ^ n) a (λ i h. (let back : n + i - n ≡ i = omega arith in bit_at-shr (a * 2 ^ n + b) n i ∙ bit_at_cat_high a n b (n + i) small (omega arith) ∙ rw back refl)), low_bits-same n (a * 2 ^ n + b) b (λ i h. bit_at_cat_low a n b i h)) refl

pub xor_of_bits : (a b : ℕ) → a < 2 → b < 2 → (a + b) % 2 ≡ bit_xor a b
xor_of_bits zero zero ha hb = refl
xor_of_bits zero (suc zero) ha hb = refl
xor_of_bits (suc zero) zero ha hb = refl
xor_of_bits (suc zero) (suc zero) ha hb = refl
xor_of_bits (suc (suc a)) b ha hb = absurd (omega arith)
xor_of_bits a (suc (suc b)) ha hb = absurd (omega arith)

-- the sum of two numbers' bits
pub low_bits-xor : (n x y : ℕ) → low_bits n (bit_xor x y) ≡ sum_of_bits n (low_bits n x) (low_bits n y)
low_bits-xor n x y =
    low_bits-is n (bit_xor x y) (sum_of_bits n (low_bits n x) (low_bits n y)) (length-sum_of_bytes n (low_bits n x) (low_bits n y))
    (λ i h.
    bit_at_xor x y (n - 1 - i) ∙ xor_of_bits (bit_at x (n - 1 - i)) (bit_at y (n - 1 - i)) (bit_at-lt x (n - 1 - i)) (bit_at-lt y (n - 1 - i))
    ∙ sym (get_or-sum_of_bytes n (low_bits n x) (low_bits n y) i h ∙ rw (get_or-low_bits n x i h, get_or-low_bits n y i h) refl))

pub number-low_bits : (n x : ℕ) → number (low_bits n x) ≡ x % 2 ^ n
unfolding low_bits number
number-low_bits zero x = omega arith
number-low_bits (suc n) x =
    let power : suc n ≡ 1 + n = omega arith in
    rw (length-low_bits n x, number-low_bits n x, power) (sym (mod-pow-add x 1 n))

bit_fits : (b r p : ℕ) → b < 2 → r < p → b * p + r < 2 * p
bit_fits zero r p first rest = omega arith
bit_fits (suc zero) r p first rest = omega arith
bit_fits (suc (suc b)) r p first rest = absurd (omega arith)

pub number-lt : (s : List ℕ) → ((i : ℕ) → slice_index s i < 2) → number s < 2 ^ length s
unfolding number
number-lt [] bits = omega arith
number-lt (b ∷ s) bits =
    let power : suc (length s) ≡ 1 + length s = omega arith in
    rw (power, pow-add 2 1 (length s)) (bit_fits b (number s) (2 ^ length s) (bits 0) (number-lt s (λ i. bits (suc i))))

pub low_bits-number : (n : ℕ) (s : List ℕ) → IsBits n s → low_bits n (number s) ≡ s
unfolding low_bits number
low_bits-number zero [] bits = refl
low_bits-number zero (b ∷ s) bits = let long = bits.sized in absurd (omega arith)
low_bits-number (suc n) [] bits = let short = bits.sized in absurd (omega arith)
low_bits-number (suc n) (b ∷ s) bits =
    let sized : length s ≡ n = (let long = bits.sized in omega arith) in
    let first : b < 2 = bits.bits 0 in
    let rest : number s < 2 ^ n = (let h = number-lt s (λ i. bits.bits (suc i)) in rw sized at h) in
    let top : bit_at (b * 2 ^ n + number s) n ≡ b = bit_at_cat_high b n (number s) n rest (omega arith) ∙ (let none : n - n ≡ 0 = omega arith in rw none (omega arith)) in
    let low : low_bits n (b * 2 ^ n + number s) ≡ low_bits n (number s) = low_bits-same n (b * 2 ^ n + number s) (number s) (λ i h. bit_at_cat_low b n (number s) i h) in
    rw (sized, top, low, low_bits-number n s (record { sized = sized; bits = λ i. bits.bits (suc i) })) refl
