-- Sums bit by bit, and the product of the field as a sum in its second factor.
use Rattle.std.proofs.Common.{◌≡◌, ◌<◌, ◌+◌, ◌*◌, ◌%◌, ◌^◌, ℕ, zero, suc, bit_xor, refl, sym, ap, ◌∙◌, arith}
use Rattle.std.specs.Int.{bit_at}
use Rattle.std.specs.Int.Bits.{xor_zero_l, xor_zero_r, xor_self, xor_assoc}
use Rattle.std.proofs.lemmas.Nat.{xor_comm}
use Rattle.std.proofs.lemmas.Nat.Bits.{bit_at_xor, bit_at-lt}
use Rattle.block_ciphers.specs.Field.{field_product, product_below, remainder}
use Rattle.block_ciphers.specs.Aes.{sum_of_four}

-- two sums of two, exchanged
pub interchange : (a b c d : ℕ) → bit_xor (bit_xor a b) (bit_xor c d) ≡ bit_xor (bit_xor a c) (bit_xor b d)
interchange a b c d =
    rw (xor_assoc a b (bit_xor c d), sym (xor_assoc b c d), xor_comm b c, xor_assoc c b d, sym (xor_assoc a c (bit_xor b d))) refl

-- a summand added twice is gone
pub added_twice : (a b : ℕ) → bit_xor (bit_xor a b) b ≡ a
added_twice a b = rw (xor_assoc a b b, xor_self b, xor_zero_r a) refl

picked : (s t n : ℕ) → s < 2 → t < 2 → ((s + t) % 2) * n ≡ bit_xor (s * n) (t * n)
picked zero zero n hs ht = let none : 0 * n ≡ 0 = omega arith in rw (none, xor_zero_l 0) refl
picked zero (suc zero) n hs ht = let none : 0 * n ≡ 0 = omega arith in rw (none, xor_zero_l (1 * n)) refl
picked (suc zero) zero n hs ht = let none : 0 * n ≡ 0 = omega arith in rw (none, xor_zero_r (1 * n)) refl
picked (suc zero) (suc zero) n hs ht = let none : 0 * n ≡ 0 = omega arith in rw (none, xor_self (1 * n)) refl
picked (suc (suc s)) t n hs ht = absurd (omega arith)
picked s (suc (suc t)) n hs ht = absurd (omega arith)

bit_of_sum : (x y i n : ℕ) → bit_at (bit_xor x y) i * n ≡ bit_xor (bit_at x i * n) (bit_at y i * n)
bit_of_sum x y i n = rw (bit_at_xor x y i) (picked (bit_at x i) (bit_at y i) n (bit_at-lt x i) (bit_at-lt y i))

product_below-xor : (a x y n : ℕ) → product_below a (bit_xor x y) n ≡ bit_xor (product_below a x n) (product_below a y n)
unfolding product_below
product_below-xor a x y zero = sym (xor_zero_l 0)
product_below-xor a x y (suc n) =
    rw (product_below-xor a x y n, bit_of_sum x y n (a * 2 ^ n)) (interchange (product_below a x n) (product_below a y n) (bit_at x n * (a * 2 ^ n)) (bit_at y n * (a * 2 ^ n)))

remainder-xor : (n p q : ℕ) → remainder (bit_xor p q) n ≡ bit_xor (remainder p n) (remainder q n)
unfolding remainder
remainder-xor zero p q = refl
remainder-xor (suc n) p q =
    rw (bit_of_sum p q (n + 8) (283 * 2 ^ n), interchange p q (bit_at p (n + 8) * (283 * 2 ^ n)) (bit_at q (n + 8) * (283 * 2 ^ n)))
    (remainder-xor n (bit_xor p (bit_at p (n + 8) * (283 * 2 ^ n))) (bit_xor q (bit_at q (n + 8) * (283 * 2 ^ n))))

-- a product of a sum is the sum of the products
pub field_product-xor : (a x y : ℕ) → field_product a (bit_xor x y) ≡ bit_xor (field_product a x) (field_product a y)
unfolding field_product
field_product-xor a x y = rw (product_below-xor a x y 8) (remainder-xor 7 (product_below a x 8) (product_below a y 8))

pub field_product-sum : (a : ℕ) (f : ℕ → ℕ) → field_product a (sum_of_four f) ≡ sum_of_four (λ k. field_product a (f k))
field_product-sum a f =
    rw (field_product-xor a (bit_xor (bit_xor (f 0) (f 1)) (f 2)) (f 3), field_product-xor a (bit_xor (f 0) (f 1)) (f 2), field_product-xor a (f 0) (f 1)) refl

pub sum_of_sums : (f g : ℕ → ℕ) → sum_of_four (λ j. bit_xor (f j) (g j)) ≡ bit_xor (sum_of_four f) (sum_of_four g)
sum_of_sums f g =
    rw (interchange (f 0) (g 0) (f 1) (g 1), interchange (bit_xor (f 0) (f 1)) (bit_xor (g 0) (g 1)) (f 2) (g 2), interchange (bit_xor (bit_xor (f 0) (f 1)) (f 2)) (bit_xor (bit_xor (g 0) (g 1)) (g 2)) (f 3) (g 3)) refl

-- sums of four, taken in the other order
pub sum_swap : (f : ℕ → ℕ → ℕ) → sum_of_four (λ j. sum_of_four (λ k. f j k)) ≡ sum_of_four (λ k. sum_of_four (λ j. f j k))
sum_swap f =
    sum_of_sums (λ j. bit_xor (bit_xor (f j 0) (f j 1)) (f j 2)) (λ j. f j 3)
    ∙ ap (λ (x : ℕ). bit_xor x (sum_of_four (λ j. f j 3))) (sum_of_sums (λ j. bit_xor (f j 0) (f j 1)) (λ j. f j 2))
    ∙ ap (λ (x : ℕ). bit_xor (bit_xor x (sum_of_four (λ j. f j 2))) (sum_of_four (λ j. f j 3))) (sum_of_sums (λ j. f j 0) (λ j. f j 1))
