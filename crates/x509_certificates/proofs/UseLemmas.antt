-- The first octet of few bits with fewer of them unused is a bit string.
use Rattle.std.proofs.Common.{◌≡◌, ℕ, ◌+◌, ◌-◌, ◌*◌, ◌/◌, ◌%◌, ◌^◌, ◌<◌, ◌≤◌, List, [], ◌∷◌, get_or, refl, sym, ◌∙◌, subst, arith}
use Rattle.std.proofs.lemmas.Bool.Decides.{nat_tests}
use Rattle.std.proofs.lemmas.Nat.{mod-pow-add}
use Rattle.picky_asn1.specs.BitString.{IsBitString, bit_count}

second_zero : (a b : ℕ) → a + b ≡ 0 → b ≡ 0
second_zero a b e = omega (arith, e)

zero_lower : (n j k : ℕ) → n % 2 ^ (j + k) ≡ 0 → n % 2 ^ k ≡ 0
zero_lower n j k e = second_zero ((n / 2 ^ k % 2 ^ j) * 2 ^ k) (n % 2 ^ k) (sym (mod-pow-add n j k) ∙ e)

zero_fewer : (n u v : ℕ) → v ≤ u → n % 2 ^ u ≡ 0 → n % 2 ^ v ≡ 0
zero_fewer n u v h e =
    let same : (u - v) + v ≡ u = omega (arith, h) in
    zero_lower n (u - v) v (subst (λ (k : ℕ). n % 2 ^ k ≡ 0) (sym same) e)

one_octet : (octet unused : ℕ) → unused ≤ 7 → octet % 2 ^ unused ≡ 0 → IsBitString (record { octets = octet ∷ []; unused = unused })
one_octet octet unused few zeros = grind (arith, nat_tests)

zeros_of : (octet unused : ℕ) → IsBitString (record { octets = octet ∷ []; unused = unused }) → octet % 2 ^ unused ≡ 0
zeros_of octet unused h = grind (arith, nat_tests)

few_of : (octets : List ℕ) (unused : ℕ) → IsBitString (record { octets = octets; unused = unused }) → unused ≤ 7
few_of octets unused h = grind (arith, nat_tests)

pub below_8 : (count : ℕ) → count ≤ 9 → (count ≡ 9 → ⊥) → count ≤ 8
below_8 count few not_nine = omega (arith, few, not_nine)

pub widened_valid : (octets : List ℕ) (unused count : ℕ) → IsBitString (record { octets = octets; unused = unused }) → bit_count (record { octets = octets; unused = unused }) < count
    → count ≤ 8 → IsBitString (record { octets = get_or octets 0 0 ∷ []; unused = 8 - count })
widened_valid [] unused count valid more few =
    one_octet 0 (8 - count) (omega (arith, more, few)) (zero_fewer 0 8 (8 - count) (omega arith) refl)
widened_valid (octet ∷ []) unused count valid more few =
    one_octet octet (8 - count) (omega (arith, more, few)) (zero_fewer octet unused (8 - count) (omega (arith, more, few)) (zeros_of octet unused valid))
widened_valid (octet ∷ next ∷ octets) unused count valid more few =
    let small = few_of (octet ∷ next ∷ octets) unused valid in
    absurd (omega (arith, more, few, small))
