-- The octets of a number without the octet that only says that it isn't negative.
use Rattle.std.proofs.Common.{◌≡◌, ◌≢◌, ℕ, zero, suc, ◌-◌, ◌<◌, ◌≤◌, List, [], ◌∷◌, map, length, get_or, take, drop, refl, sym, ap, ◌∙◌, inl, inr, arith, ℤ, pos, negsuc}
use Rattle.std.specs.Int.Digits.{digits_of, number_from_digits}
use Rattle.std.proofs.lemmas.Bool.{cases_lt, cond_below, cond_above, ne_eqb}
use Rattle.std.proofs.lemmas.List.{take_all}
use Rattle.std.proofs.lemmas.Int.Digits.{number_digits_of}
use Rattle.picky_asn1.specs.Integer.{complement, with_sign, natural_octets, integer_content, unsigned_octets}
use Rattle.picky_asn1.specs.IntegerLaws.{sign-with_sign}
use Rattle.picky_asn1.proofs.IntegerLemmas.{first_digit}

-- digits below 128 need no sign, and others do
plain : (d : ℕ) (ds : List ℕ) → d < 128 → with_sign (d ∷ ds) ≡ d ∷ ds
plain d ds low = sym (cond_below d 128 (d ∷ ds) (0 ∷ d ∷ ds) low)

signed : (d : ℕ) (ds : List ℕ) → 128 ≤ d → with_sign (d ∷ ds) ≡ 0 ∷ d ∷ ds
signed d ds high = sym (cond_above d 128 (d ∷ ds) (0 ∷ d ∷ ds) (0 ∷ d ∷ ds) high refl)

-- a zero octet in front of others is a sign
without_sign : (ds octets : List ℕ) → (0 < length ds → 0 < get_or ds 0 0) → with_sign ds ≡ octets → 1 < length octets → get_or octets 0 0 ≡ 0 → take (length octets - 1) (drop 1 octets) ≡ ds
without_sign [] octets first e long is_zero = absurd (omega (arith, long, ap length e))
without_sign (d ∷ ds) octets first e long is_zero =
    elim (cases_lt d 128) [
      | inl low ↦
          let front : d ≡ 0 = ap (λ l. get_or l 0 0) (sym (plain d ds low) ∙ e) ∙ is_zero in
          absurd (omega (arith, front, first (omega arith)))
      | inr high ↦
          let same : octets ≡ 0 ∷ d ∷ ds = sym e ∙ signed d ds high in
          let whole : length (d ∷ ds) ≤ length (0 ∷ d ∷ ds) - 1 = omega arith in
          rw same (take_all (length (0 ∷ d ∷ ds) - 1) (d ∷ ds) whole)
    ]

-- where there is none, the octets are the digits
no_sign : (ds octets : List ℕ) → 0 < length ds → with_sign ds ≡ octets → (1 < length octets → get_or octets 0 0 ≢ 0) → octets ≡ ds
no_sign [] octets some e other = absurd (omega arith)
no_sign (d ∷ ds) octets some e other =
    elim (cases_lt d 128) [
      | inl low ↦ sym e ∙ plain d ds low
      | inr high ↦
          let same : octets ≡ 0 ∷ d ∷ ds = sym e ∙ signed d ds high in
          absurd (other (rw same (omega arith)) (rw same refl))
    ]

-- a positive number has digits
no_number : (ds : List ℕ) → length ds ≤ 0 → number_from_digits 256 ds ≡ 0
no_number [] h = refl
no_number (d ∷ ds) h = absurd (omega arith)

some_digits : (n : ℕ) → 0 < length (digits_of 256 (suc n))
some_digits n =
    elim (cases_lt 0 (length (digits_of 256 (suc n)))) [
      | inl some ↦ some
      | inr none ↦
          let number = number_digits_of 256 (suc n) (omega arith) in
          absurd (omega (arith, no_number (digits_of 256 (suc n)) none, number))
    ]

positive_octets : (n : ℕ) → unsigned_octets (pos (suc n)) ≡ digits_of 256 (suc n)
positive_octets n =
    let other : suc n ≢ 0 = λ e. omega (arith, e) in
    rw (ne_eqb (suc n) 0 other) refl

pub without_sign-octets : (z : ℤ) (octets : List ℕ) → integer_content z ≡ octets → 1 < length octets → get_or octets 0 0 ≡ 0 → take (length octets - 1) (drop 1 octets) ≡ unsigned_octets z
unfolding integer_content natural_octets
without_sign-octets (pos zero) octets e long is_zero = absurd (omega (arith, long, ap length e))
without_sign-octets (pos (suc n)) octets e long is_zero =
    without_sign (digits_of 256 (suc n)) octets (first_digit (suc n)) e long is_zero ∙ sym (positive_octets n)
without_sign-octets (negsuc n) octets e long is_zero =
    let sign = sign-with_sign (digits_of 256 n) in
    let high : 128 ≤ get_or (map complement (natural_octets n)) 0 0 = rw sign.is (omega (arith, sign.low)) in
    let front : get_or (map complement (natural_octets n)) 0 0 ≡ 0 = ap (λ l. get_or l 0 0) e ∙ is_zero in
    absurd (omega (arith, high, front))

pub no_sign-octets : (z : ℤ) (octets : List ℕ) → integer_content z ≡ octets → (1 < length octets → get_or octets 0 0 ≢ 0) → octets ≡ unsigned_octets z
unfolding integer_content natural_octets
no_sign-octets (pos zero) octets e other = sym e
no_sign-octets (pos (suc n)) octets e other = no_sign (digits_of 256 (suc n)) octets (some_digits n) e other ∙ sym (positive_octets n)
no_sign-octets (negsuc n) octets e other = sym e
