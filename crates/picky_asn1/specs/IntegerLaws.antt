-- Each whole number has one content.
use Rattle.std.proofs.Common.{◌≡◌, ℕ, ◌-◌, ◌<◌, ◌≤◌, ltb, List, [], ◌∷◌, map, get_or, refl, sym, ap, ◌∙◌, inl, inr, arith, ℤ, pos, negsuc}
use Rattle.std.specs.Int.Digits.{digits_of, number_from_digits, AllBelowBase}
use Rattle.std.proofs.lemmas.Bool.{cases_lt, cond_both, cond_below, cond_above}
use Rattle.std.proofs.lemmas.Bool.Decides.{nat_tests}
use Rattle.std.proofs.lemmas.Int.Digits.{number_digits_of, all_below_base_digits_of}
use Rattle.picky_asn1.specs.Integer.{complement, with_sign, natural_octets, integer_content, integer_value}

-- the first bit says that the number isn't negative
pub record HasPositiveSign (octets : List ℕ) : Type 0 where
  pub first : ℕ
  pub rest : List ℕ
  pub is : octets ≡ first ∷ rest
  pub low : first < 128

-- the zero octet is there where it is needed
pub sign-with_sign : (digits : List ℕ) → HasPositiveSign (with_sign digits)
sign-with_sign [] = record { first = 0; rest = []; is = refl; low = omega arith }
sign-with_sign (d ∷ ds) =
    elim (cases_lt d 128) [
      | inl low ↦ record { first = d; rest = ds; is = grind (arith, nat_tests); low = low }
      | inr high ↦ record { first = 0; rest = d ∷ ds; is = grind (arith, nat_tests); low = omega arith }
    ]

-- and changes no number
pub number-with_sign : (digits : List ℕ) → number_from_digits 256 (with_sign digits) ≡ number_from_digits 256 digits
number-with_sign [] = refl
number-with_sign (d ∷ ds) =
    elim (cases_lt d 128) [ inl low ↦ grind (arith, nat_tests) | inr high ↦ grind (arith, nat_tests) ]

-- what is made of octets is octets
pub octets-with_sign : (digits : List ℕ) → AllBelowBase 256 digits → AllBelowBase 256 (with_sign digits)
octets-with_sign [] h = (omega arith, tt)
octets-with_sign (d ∷ ds) h =
    cond_both (ltb d 128) (d ∷ ds) (0 ∷ d ∷ ds) (AllBelowBase 256) (λ _. h) (λ _. (omega arith, h))

-- the content of a natural number is octets
pub octets-natural_octets : (n : ℕ) → AllBelowBase 256 (natural_octets n)
unfolding natural_octets
octets-natural_octets n = octets-with_sign (digits_of 256 n) (all_below_base_digits_of 256 n (omega arith))

-- which represent it
number-natural_octets : (n : ℕ) → number_from_digits 256 (natural_octets n) ≡ n
unfolding natural_octets
number-natural_octets n = number-with_sign (digits_of 256 n) ∙ number_digits_of 256 n (omega arith)

-- turning each bit twice changes nothing
pub complement-twice : (octets : List ℕ) → AllBelowBase 256 octets → map complement (map complement octets) ≡ octets
complement-twice [] h = refl
complement-twice (x ∷ xs) h =
    let same : 255 - (255 - x) ≡ x = omega (arith, h.0) in
    rw (same, complement-twice xs h.1) refl

-- the first octet says the sign
pub integer_value-low : (octets : List ℕ) → get_or octets 0 0 < 128 → integer_value octets ≡ pos (number_from_digits 256 octets)
unfolding integer_value
integer_value-low octets low =
    sym (cond_below (get_or octets 0 0) 128 (pos (number_from_digits 256 octets)) (negsuc (number_from_digits 256 (map complement octets))) low)

pub integer_value-high : (octets : List ℕ) → 128 ≤ get_or octets 0 0 → integer_value octets ≡ negsuc (number_from_digits 256 (map complement octets))
unfolding integer_value
integer_value-high octets high =
    sym (cond_above (get_or octets 0 0) 128 (pos (number_from_digits 256 octets)) (negsuc (number_from_digits 256 (map complement octets))) (negsuc (number_from_digits 256 (map complement octets))) high refl)

-- the content of a natural number represents it
integer_value-natural_octets : (n : ℕ) → integer_value (natural_octets n) ≡ pos n
unfolding natural_octets
integer_value-natural_octets n =
    let sign = sign-with_sign (digits_of 256 n) in
    integer_value-low (natural_octets n) (rw sign.is sign.low) ∙ ap pos (number-natural_octets n)

-- and its complement for a negative one
integer_value-complement : (n : ℕ) → integer_value (map complement (natural_octets n)) ≡ negsuc n
unfolding natural_octets
integer_value-complement n =
    let sign = sign-with_sign (digits_of 256 n) in
    let same = complement-twice (natural_octets n) (octets-natural_octets n) in
    let high : 128 ≤ get_or (map complement (natural_octets n)) 0 0 = rw sign.is (omega (arith, sign.low)) in
    integer_value-high (map complement (natural_octets n)) high
    ∙ ap (λ octets. negsuc (number_from_digits 256 octets)) same
    ∙ ap negsuc (number-natural_octets n)

-- each content represents its number
pub integer_value-integer_content : (z : ℤ) → integer_value (integer_content z) ≡ z
unfolding integer_content
integer_value-integer_content (pos n) = integer_value-natural_octets n
integer_value-integer_content (negsuc n) = integer_value-complement n

-- so no two numbers have one content
pub integer_content-injective : (y z : ℤ) → integer_content y ≡ integer_content z → y ≡ z
integer_content-injective y z e = sym (integer_value-integer_content y) ∙ ap integer_value e ∙ integer_value-integer_content z
