-- Strings of bits shifted to the left, those that leave them coming in at their end.
use Rattle.std.proofs.Common.{◌≡◌, ◌<◌, ◌≤◌, ◌+◌, ◌-◌, ◌*◌, ◌/◌, ◌%◌, ◌^◌, ℕ, ◌++◌, length, take, drop, bit_and, bit_or, refl, sym, ap, ◌∙◌, inl, inr, arith, lit<}
use Rattle.std.specs.Int.{bit_at}
use Rattle.std.proofs.lemmas.Bool.{cases_lt}
use Rattle.std.proofs.lemmas.Nat.{and_mask, pow_pos, mod-mul-add}
use Rattle.std.proofs.Math.Nat.{mod-eq_of_lt}
use Rattle.std.proofs.lemmas.Nat.Bits.{bit_at_or, bit_at_cat_low, bit_at_cat_high, bit_at_above, bit_at-zero}
use Rattle.std.proofs.lemmas.List.{get_or-take, get_or-drop, get_or_append_left, get_or-append_right, length-append, length-drop, length-take-le}
use Rattle.block_ciphers.specs.Bits.{low_bits}
use Rattle.block_ciphers.specs.Des.{turned}
use Rattle.block_ciphers.proofs.BitStrings.{length-low_bits, get_or-low_bits, low_bits-is, low_bits-mod, bit_at-shr, bit_at-mod}

-- a bit of a shifted number
bit_at-shl_low : (x p i : ℕ) → i < p → bit_at (x * 2 ^ p) i ≡ 0
bit_at-shl_low x p i h = let same : x * 2 ^ p + 0 ≡ x * 2 ^ p = omega arith in ap (λ (y : ℕ). bit_at y i) (sym same) ∙ bit_at_cat_low x p 0 i h ∙ bit_at-zero i

bit_at-shl_high : (x p i : ℕ) → p ≤ i → bit_at (x * 2 ^ p) i ≡ bit_at x (i - p)
bit_at-shl_high x p i h = let same : x * 2 ^ p + 0 ≡ x * 2 ^ p = omega arith in ap (λ (y : ℕ). bit_at y i) (sym same) ∙ bit_at_cat_high x p 0 i (pow_pos p) h

once_around : (a w r : ℕ) → a ≡ w + r → r < w → a % w ≡ r
once_around a w r is small = let written : a ≡ 1 * w + r = omega arith in rw written (mod-mul-add 1 w r small)

-- a bit of a number of w bits turned by p places, in a word of m bits
pub turned_bit : (w p m x i : ℕ) → x < 2 ^ w → 0 < p → p < w → w ≤ m → i < w → bit_at (bit_or (x * 2 ^ p % 2 ^ m) (x / 2 ^ (w - p))) i ≡ bit_at x ((i + (w - p)) % w)
turned_bit w p m x i small some few room below =
    bit_at_or (x * 2 ^ p % 2 ^ m) (x / 2 ^ (w - p)) i
    ∙ rw (bit_at-mod (x * 2 ^ p) m i (omega arith), bit_at-shr x (w - p) i)
    (elim (cases_lt i p) [
      | inl h ↦
          (let place : (i + (w - p)) % w ≡ w - p + i = mod-eq_of_lt (let inside : i + (w - p) < w = omega arith in inside) ∙ omega arith in
          rw (bit_at-shl_low x p i h, place) (omega arith))
      | inr h ↦ (let place : (i + (w - p)) % w ≡ i - p = once_around (i + (w - p)) w (i - p) (omega arith) (omega arith) in rw (bit_at-shl_high x p i h, bit_at_above x w (w - p + i) small (omega arith), place) (omega arith))
    ])

-- the string of w bits so turned
pub turned_string : (w p m x : ℕ) → x < 2 ^ w → 0 < p → p < w → w ≤ m → low_bits w (bit_or (x * 2 ^ p % 2 ^ m) (x / 2 ^ (w - p))) ≡ turned p (low_bits w x)
unfolding turned
turned_string w p m x small some few room =
    let s = low_bits w x in
    let long : length (low_bits w x) ≡ w = length-low_bits w x in
    let rest : length (drop p (low_bits w x)) ≡ w - p = omega (arith, length-drop p (low_bits w x)) in
    let front : length (take p (low_bits w x)) ≡ p = length-take-le p (low_bits w x) (omega arith) in
    low_bits-is w (bit_or (x * 2 ^ p % 2 ^ m) (x / 2 ^ (w - p))) (drop p (low_bits w x) ++ take p (low_bits w x))
    (omega (arith, length-append (drop p (low_bits w x)) (take p (low_bits w x))))
    (λ i h.
    turned_bit w p m x (w - 1 - i) small some few room (omega arith)
    ∙ elim (cases_lt i (w - p)) [
      | inl h' ↦
          (let place : (w - 1 - i + (w - p)) % w ≡ w - 1 - (p + i) = once_around (w - 1 - i + (w - p)) w (w - 1 - (p + i)) (omega arith) (omega arith) in
          rw (get_or_append_left (drop p (low_bits w x)) (take p (low_bits w x)) 0 i (omega arith), get_or-drop p (low_bits w x) i 0, get_or-low_bits w x (p + i) (omega arith), place) refl)
      | inr h' ↦
          (let place : (w - 1 - i + (w - p)) % w ≡ w - 1 - (i - (w - p)) = mod-eq_of_lt (let inside : w - 1 - i + (w - p) < w = omega arith in inside) ∙ omega arith in
          rw (get_or-append_right (drop p (low_bits w x)) (take p (low_bits w x)) (w - p) i 0 rest h', get_or-take p (low_bits w x) (i - (w - p)) 0 (omega arith), get_or-low_bits w x (i - (w - p)) (omega arith), place) refl)
    ])

-- a half of a key, turned as the code does it
pub turned_half : (p x : ℕ) → x < 2 ^ 28 → 0 < p → p < 28 → low_bits 28 (bit_and (bit_or (x * 2 ^ p % 2 ^ 64) (x / 2 ^ (28 - p))) 268435455) ≡ turned p (low_bits 28 x)
turned_half p x small some few =
    let y = bit_or (x * 2 ^ p % 2 ^ 64) (x / 2 ^ (28 - p)) in
    rw (and_mask (bit_or (x * 2 ^ p % 2 ^ 64) (x / 2 ^ (28 - p))) 28, low_bits-mod 28 (bit_or (x * 2 ^ p % 2 ^ 64) (x / 2 ^ (28 - p)))) (turned_string 28 p 64 x small some few (lit< tt))
