-- The field of 256 elements (FIPS 197, sections 4.1 and 4.2) and the substitution of bytes built on it
-- (sections 5.1.1 and 5.3.2). A byte is the polynomial over two elements whose coefficient of x^i is its
-- bit i, so the sum of two polynomials is `bit_xor`.
use Rattle.std.specs.Prelude.{◌==◌, ℕ, ◌+◌, ◌*◌, ◌%◌, ◌^◌, zero, suc, bit_xor, if◌then◌else◌}
use Rattle.std.specs.Int.{bit_at}

-- the product of two polynomials, the second one cut to degree below n
unfoldable pub product_below : ℕ → ℕ → ℕ → ℕ
product_below a b zero = 0
product_below a b (suc n) = bit_xor (product_below a b n) (bit_at b n * (a * 2 ^ n))

-- what division by x^8 + x^4 + x^3 + x + 1, which is 283, leaves of a polynomial of degree below 8 + n
unfoldable pub remainder : ℕ → ℕ → ℕ
remainder p zero = p
remainder p (suc n) = remainder (bit_xor p (bit_at p (n + 8) * (283 * 2 ^ n))) n

-- the product in the field (FIPS 197, section 4.2)
unfoldable pub field_product : ℕ → ℕ → ℕ
field_product a b = remainder (product_below a b 8) 7

-- the b below n with a * b = 1, or 0 where there is none
unfoldable pub inverse_below : ℕ → ℕ → ℕ
inverse_below a zero = 0
inverse_below a (suc n) = if field_product a n == 1 then n else inverse_below a n

-- the multiplicative inverse, and 0 for 0 (FIPS 197, section 5.1.1)
unfoldable pub inverse : ℕ → ℕ
inverse a = inverse_below a 256

-- the number below 2 ^ n with these bits
unfoldable pub of_bits : (ℕ → ℕ) → ℕ → ℕ
of_bits bit zero = 0
of_bits bit (suc n) = of_bits bit n + bit n * 2 ^ n

-- the affine transformation (FIPS 197, section 5.1.1): bit i is the sum of five bits of b and of bit i of 63
unfoldable pub affine : ℕ → ℕ
affine b = of_bits (λ i. (bit_at b i + bit_at b ((i + 4) % 8) + bit_at b ((i + 5) % 8) + bit_at b ((i + 6) % 8) + bit_at b ((i + 7) % 8) + bit_at 0x63 i) % 2) 8

-- the substitution of a byte (FIPS 197, section 5.1.1)
unfoldable pub sub_byte : ℕ → ℕ
sub_byte a = affine (inverse a)

-- the affine transformation that undoes `affine` (FIPS 197, section 5.3.2)
unfoldable pub inv_affine : ℕ → ℕ
inv_affine b = of_bits (λ i. (bit_at b ((i + 2) % 8) + bit_at b ((i + 5) % 8) + bit_at b ((i + 7) % 8) + bit_at 0x05 i) % 2) 8

-- the substitution that undoes `sub_byte` (FIPS 197, section 5.3.2)
unfoldable pub inv_sub_byte : ℕ → ℕ
inv_sub_byte b = inverse (inv_affine b)
