-- The octets that are an integer's content are those that are the fewest for their number.
use Rattle.std.proofs.Common.{◌≡◌, ℕ, zero, suc, ◌+◌, ◌-◌, ◌*◌, ◌/◌, ◌%◌, ◌<◌, ◌≤◌, ◌≢◌, Bool, true, false, cond, ltb, List, [], ◌∷◌, ◌++◌, map, length, get_or, take, drop, Fits, FitsSigned, w8, w64, to_z, of_z, ◌-ℤ◌, subst, rules, ◌^◌, ◌⊎◌, refl, sym, ap, ◌∙◌, inl, inr, arith, ℤ, pos, negsuc}
use Rattle.std.specs.Int.Digits.{digits_of, number_from_digits, number_from_digits_after, AllBelowBase}
use Rattle.std.proofs.lemmas.Bool.{false≢true, cases_eq, cases_lt, ltb-true, ltb-false, cond_both, cond_below, cond_above}
use Rattle.std.proofs.lemmas.Bool.Decides.{nat_tests}
use Rattle.std.proofs.lemmas.List.{take_more, take_all, append-nil}
use Rattle.std.proofs.lemmas.Nat.{from_be_bytes-to_be_bytes_8, pow-add}
use Rattle.std.proofs.Math.Pow.{pow_mono}
use Rattle.std.specs.Int.{to_be_bytes}
use Rattle.std.proofs.lemmas.Int.Digits.{digits_of_step, number_more, first_digits_of, number_after_lt}
use Rattle.std.proofs.lemmas.Int.{ints}
use Rattle.std.proofs.Math.Nat.{pow-suc, pow-le-pow_right, mul-le-mul}
use Rattle.picky_asn1.specs.Integer.{complement, with_sign, natural_octets, integer_content, integer_value, is_integer}
use Rattle.picky_asn1.specs.IntegerLaws.{integer_value-low, integer_value-high, complement-twice, octets-natural_octets}

-- each digit is below 256
octet_at : (octets : List ℕ) → AllBelowBase 256 octets → (k : ℕ) → get_or octets k 0 < 256
octet_at [] h k = omega arith
octet_at (x ∷ xs) h zero = h.0
octet_at (x ∷ xs) h (suc k) = octet_at xs h.1 k

-- digits that don't begin with zero represent no zero
front_positive : (ds : List ℕ) → 0 < get_or ds 0 0 → (k : ℕ) → k < length ds → 0 < number_from_digits 256 (take (k + 1) ds)
front_positive ds first zero h = omega (arith, number_more 256 ds 0 h)
front_positive ds first (suc k) h =
    let same : suc k ≡ k + 1 = omega arith in
    omega (arith, number_more 256 ds (suc k) h, rw (← same) at (front_positive ds first k (omega arith)))

-- the first k digits are those of their number
digits_of-front : (ds : List ℕ) → AllBelowBase 256 ds → 0 < get_or ds 0 0 → (k : ℕ) → k ≤ length ds → digits_of 256 (number_from_digits 256 (take k ds)) ≡ take k ds
digits_of-front ds small first zero h = refl
digits_of-front ds small first (suc k) h =
    let next : suc k ≡ k + 1 = omega arith in
    let front = number_from_digits 256 (take k ds) in
    let number = number_from_digits 256 (take (k + 1) ds) in
    let last = get_or ds k 0 in
    let more = number_more 256 ds k h in
    let low = octet_at ds small k in
    let quotient : number / 256 ≡ front = omega (arith, more, low) in
    let rest : number % 256 ≡ last = omega (arith, more, low) in
    rw next (digits_of_step 256 number (omega arith) (front_positive ds first k h)
    ∙ ap (λ q. digits_of 256 q ++ (number % 256 ∷ [])) quotient
    ∙ ap (λ r. digits_of 256 front ++ (r ∷ [])) rest
    ∙ ap (λ digits. digits ++ (last ∷ [])) (digits_of-front ds small first k (omega arith))
    ∙ sym (take_more ds k 0 h))

-- digits that don't begin with zero are those of their number
digits_of-number : (ds : List ℕ) → AllBelowBase 256 ds → 0 < get_or ds 0 0 → digits_of 256 (number_from_digits 256 ds) ≡ ds
digits_of-number ds small first =
    let whole : length ds ≤ length ds = omega arith in rw take_all at (digits_of-front ds small first (length ds) whole)

-- minimal octets with a positive sign are the content of their number
natural_octets-number : (octets : List ℕ) → AllBelowBase 256 octets → is_integer octets ≡ true → get_or octets 0 0 < 128 → natural_octets (number_from_digits 256 octets) ≡ octets
unfolding natural_octets
natural_octets-number [] small minimal low = absurd (cc)
natural_octets-number (zero ∷ []) small minimal low = refl
natural_octets-number (suc x ∷ []) small minimal low =
    rw (digits_of-number (suc x ∷ []) small (omega arith)) (sym (cond_below (suc x) 128 (suc x ∷ []) (0 ∷ suc x ∷ []) low))
natural_octets-number (zero ∷ y ∷ ys) small minimal low =
    let high : 128 ≤ y = grind (arith, nat_tests) in
    rw (digits_of-number (y ∷ ys) small.1 (omega arith)) (sym (cond_above y 128 (y ∷ ys) (0 ∷ y ∷ ys) (0 ∷ y ∷ ys) high refl))
natural_octets-number (suc x ∷ y ∷ ys) small minimal low =
    rw (digits_of-number (suc x ∷ y ∷ ys) small (omega arith)) (sym (cond_below (suc x) 128 (suc x ∷ y ∷ ys) (0 ∷ suc x ∷ y ∷ ys) low))

-- the complement of octets is octets
octets-complement : (octets : List ℕ) → AllBelowBase 256 (map complement octets)
octets-complement [] = tt
octets-complement (x ∷ xs) = (omega arith, octets-complement xs)

-- and as minimal
is_integer-complement : (octets : List ℕ) → AllBelowBase 256 octets → is_integer (map complement octets) ≡ is_integer octets
is_integer-complement [] small = refl
is_integer-complement (x ∷ []) small = refl
is_integer-complement (x ∷ y ∷ ys) small = grind (arith, nat_tests)

-- the complement turns the sign
complement-low : (octets : List ℕ) → is_integer octets ≡ true → 128 ≤ get_or octets 0 0 → get_or (map complement octets) 0 0 < 128
complement-low [] minimal high = absurd (cc)
complement-low (x ∷ xs) minimal high = omega arith

-- the fewest octets for a number are its content
integer_content-integer_value : (octets : List ℕ) → AllBelowBase 256 octets → is_integer octets ≡ true → integer_content (integer_value octets) ≡ octets
unfolding integer_content
integer_content-integer_value octets small minimal =
    elim (cases_lt (get_or octets 0 0) 128) [
      | inl low ↦ rw (integer_value-low octets low) (natural_octets-number octets small minimal low)
      | inr high ↦
          let other = map complement octets in
          let other_minimal : is_integer other ≡ true = is_integer-complement octets small ∙ minimal in
          let number = natural_octets-number other (octets-complement octets) other_minimal (complement-low octets minimal high) in
          rw (integer_value-high octets high) (ap (map complement) number ∙ complement-twice octets small)
    ]

-- digits are minimal where the first is neither zero nor has the sign bit
is_integer-low : (d : ℕ) (ds : List ℕ) → 0 < d → d < 128 → is_integer (d ∷ ds) ≡ true
is_integer-low d [] positive low = refl
is_integer-low d (e ∷ es) positive low = grind (arith, nat_tests)

-- or where a zero goes before the sign bit
is_integer-behind_zero : (d : ℕ) (ds : List ℕ) → 128 ≤ d → is_integer (0 ∷ d ∷ ds) ≡ true
is_integer-behind_zero d ds high = grind (arith, nat_tests)

-- so digits with a sign are minimal
is_integer-with_sign : (digits : List ℕ) → (0 < length digits → 0 < get_or digits 0 0) → is_integer (with_sign digits) ≡ true
is_integer-with_sign [] first = refl
is_integer-with_sign (d ∷ ds) first =
    cond_both (ltb d 128) (d ∷ ds) (0 ∷ d ∷ ds) (λ octets. is_integer octets ≡ true)
    (λ low. is_integer-low d ds (first (omega arith)) (ltb-true d 128 low))
    (λ high. is_integer-behind_zero d ds (omega (arith, ltb-false d 128 high)))

-- the first digit of a number isn't zero
pub first_digit : (n : ℕ) → 0 < length (digits_of 256 n) → 0 < get_or (digits_of 256 n) 0 0
first_digit zero h = absurd (omega arith)
first_digit (suc n) h = first_digits_of 256 (suc n) (omega arith) (omega arith)

-- the content of a natural number is minimal
is_integer-natural_octets : (n : ℕ) → is_integer (natural_octets n) ≡ true
unfolding natural_octets
is_integer-natural_octets n = is_integer-with_sign (digits_of 256 n) (first_digit n)

-- each content is minimal
pub is_integer-integer_content : (z : ℤ) → is_integer (integer_content z) ≡ true
unfolding integer_content
is_integer-integer_content (pos n) = is_integer-natural_octets n
is_integer-integer_content (negsuc n) =
    is_integer-complement (natural_octets n) (octets-natural_octets n) ∙ is_integer-natural_octets n

-- octets that are bytes
below_base : (octets : List ℕ) → ((k : ℕ) → Fits w8 (get_or octets k 0)) → AllBelowBase 256 octets
below_base [] h = tt
below_base (x ∷ xs) h = ((h 0).fits, below_base xs (λ k. h (suc k)))

-- so octets that are the fewest for their number represent it
pub content-from_octets : (octets : List ℕ) → ((k : ℕ) → Fits w8 (get_or octets k 0)) → is_integer octets ≡ true → integer_content (integer_value octets) ≡ octets
content-from_octets octets h minimal = integer_content-integer_value octets (below_base octets h) minimal

-- and others for none
pub not_content : (octets : List ℕ) → is_integer octets ≡ false → (z : ℤ) → integer_content z ≢ octets
not_content octets loose z e =
    false≢true (sym loose ∙ ap is_integer (sym e) ∙ is_integer-integer_content z)

-- how two first octets can be one too many
loose_cases : (x y : ℕ) (ys : List ℕ) → is_integer (x ∷ y ∷ ys) ≡ false → ((x ≡ 0) × (y < 128)) ⊎ ((x ≡ 255) × (128 ≤ y))
loose_cases x y ys loose =
    elim (cases_lt y 128) [
      | inl low ↦ inl (grind (arith, nat_tests), low)
      | inr high ↦ inr (grind (arith, nat_tests), high)
    ]

-- the first of them goes without a change of the number
without_first : (x y : ℕ) (ys : List ℕ) → is_integer (x ∷ y ∷ ys) ≡ false → integer_value (y ∷ ys) ≡ integer_value (x ∷ y ∷ ys)
without_first x y ys loose =
    elim (loose_cases x y ys loose) [
      | inl (zeros, low) ↦
          rw (zeros, integer_value-low (y ∷ ys) low, integer_value-low (0 ∷ y ∷ ys) (omega arith)) refl
      | inr (ones, high) ↦
          rw (ones, integer_value-high (y ∷ ys) high, integer_value-high (255 ∷ y ∷ ys) (omega arith)) refl
    ]

-- of octets that aren't the fewest, the first can go
pub shorter : (octets : List ℕ) → 0 < length octets → is_integer octets ≡ false → (0 < length (take (length octets - 1) (drop 1 octets))) × (integer_value (take (length octets - 1) (drop 1 octets)) ≡ integer_value octets)
shorter [] some loose = absurd (omega arith)
shorter (x ∷ []) some loose = absurd (cc)
shorter (x ∷ y ∷ ys) some loose =
    let whole : length (y ∷ ys) ≤ length (x ∷ y ∷ ys) - 1 = omega arith in
    let rest : take (length (x ∷ y ∷ ys) - 1) (y ∷ ys) ≡ y ∷ ys = take_all (length (x ∷ y ∷ ys) - 1) (y ∷ ys) whole in
    rw rest (omega arith, without_first x y ys loose)

-- the bytes of a machine's number are its digits
number-be_bytes : (n : ℕ) → n < 2 ^ 64 → number_from_digits 256 (0 ∷ to_be_bytes w64 n) ≡ n
number-be_bytes n h = omega (arith, from_be_bytes-to_be_bytes_8 n h)

-- one octet without a sign is its number
pub integer_value-one : (n : ℕ) → n < 128 → integer_value (n ∷ []) ≡ pos n
integer_value-one n low =
    let digit : number_from_digits 256 (n ∷ []) ≡ n = omega arith in
    integer_value-low (n ∷ []) low ∙ ap pos digit

-- the bytes of a machine's number, behind a zero
pub integer_value-be_bytes : (bytes : List ℕ) (n : ℕ) → n < 2 ^ 64 → bytes ≡ to_be_bytes w64 n → integer_value (0 ∷ (bytes ++ [])) ≡ pos n
integer_value-be_bytes bytes n h e =
    rw (append-nil, e) (integer_value-low (0 ∷ to_be_bytes w64 n) (omega arith) ∙ ap pos (number-be_bytes n h))

-- each content is octets
octets-integer_content : (z : ℤ) → AllBelowBase 256 (integer_content z)
unfolding integer_content
octets-integer_content (pos n) = octets-natural_octets n
octets-integer_content (negsuc n) = octets-complement (natural_octets n)

-- what is known of octets that are a content
record IsContent (octets : List ℕ) : Type 0 where
  small : AllBelowBase 256 octets
  minimal : is_integer octets ≡ true

-- a content is minimal
is_content : (octets : List ℕ) → integer_content (integer_value octets) ≡ octets → IsContent octets
is_content octets e =
    subst IsContent e (record {
      small = octets-integer_content (integer_value octets);
      minimal = is_integer-integer_content (integer_value octets);
    })

-- digits in front of others represent that many powers
number-lower : (n : ℕ) (ds : List ℕ) → n * 256 ^ length ds ≤ number_from_digits_after 256 n ds
number-lower n [] = omega arith
number-lower n (d ∷ ds) = rw pow-suc (omega (arith, number-lower (n * 256 + d) ds))

-- eight octets with a positive sign fit 63 bits
number-short : (octets : List ℕ) → AllBelowBase 256 octets → get_or octets 0 0 < 128 → length octets ≤ 8 → number_from_digits 256 octets < 2 ^ 63
number-short [] small low short = omega arith
number-short (x ∷ xs) small low short =
    let room : length xs ≤ 7 = omega arith in
    let power : 256 ^ length xs ≤ 256 ^ 7 = pow-le-pow_right {n = 256} (omega arith) room in
    let front : 0 * 256 + x + 1 ≤ 128 = omega arith in
    omega (arith, number_after_lt 256 (0 * 256 + x) xs small.1, mul-le-mul front power)

-- and nine that are minimal do not
number-long : (octets : List ℕ) → is_integer octets ≡ true → get_or octets 0 0 < 128 → 8 < length octets → 2 ^ 63 ≤ number_from_digits 256 octets
number-long [] minimal low long = absurd (omega arith)
number-long (x ∷ []) minimal low long = absurd (omega arith)
number-long (x ∷ y ∷ ys) minimal low long =
    let room : 7 ≤ length ys = omega arith in
    let power : 256 ^ 7 ≤ 256 ^ length ys = pow-le-pow_right {n = 256} (omega arith) room in
    let front : 128 ≤ (0 * 256 + x) * 256 + y =
    elim (cases_eq x 0) [
      | inl zeros ↦ let high : 128 ≤ y = grind (arith, nat_tests) in omega arith
      | inr some ↦ omega arith
    ] in
    omega (arith, number-lower ((0 * 256 + x) * 256 + y) ys, mul-le-mul front power)

-- the complement is as long
length-complement : (octets : List ℕ) → length (map complement octets) ≡ length octets
length-complement [] = refl
length-complement (x ∷ xs) = ap suc (length-complement xs)

-- more than eight octets are a number of more than 64 bits
pub value-long : (octets : List ℕ) → integer_content (integer_value octets) ≡ octets → 8 < length octets → FitsSigned w64 (integer_value octets) → ⊥
value-long octets e long fits =
    let known = is_content octets e in
    elim (cases_lt (get_or octets 0 0) 128) [
      | inl low ↦
          let small = (rw (integer_value-low octets low) at fits).sfits in
          omega (arith, number-long octets known.minimal low long, small)
      | inr high ↦
          let other = map complement octets in
          let other_minimal : is_integer other ≡ true = is_integer-complement octets known.small ∙ known.minimal in
          let small = (rw (integer_value-high octets high) at fits).sfits in
          omega (arith, number-long other other_minimal (complement-low octets known.minimal high) (rw length-complement long), small)
    ]

-- at most eight are one of 64
pub number-positive : (octets : List ℕ) → integer_content (integer_value octets) ≡ octets → length octets ≤ 8 → get_or octets 0 0 < 128 → (integer_value octets ≡ pos (number_from_digits 256 octets)) × (number_from_digits 256 octets < 2 ^ 63)
number-positive octets e short low =
    (integer_value-low octets low, number-short octets (is_content octets e).small low short)

-- or, below zero, their complement is
pub number-negative : (octets : List ℕ) → integer_content (integer_value octets) ≡ octets → length octets ≤ 8 → 128 ≤ get_or octets 0 0 → (integer_value octets ≡ negsuc (number_from_digits 256 (map complement octets))) × (number_from_digits 256 (map complement octets) < 2 ^ 63)
number-negative octets e short high =
    let known = is_content octets e in
    (integer_value-high octets high, number-short (map complement octets) (octets-complement octets) (complement-low octets known.minimal high) (rw length-complement short))

-- a number of 63 bits as an `i64`
pub fits-positive : (n : ℕ) → n < 2 ^ 63 → FitsSigned w64 (pos n) × (to_z w64 n ≡ pos n)
fits-positive n h = (search rules, omega (arith, ints))

-- and a negative one
pub fits-negative : (n : ℕ) → n < 2 ^ 63 → FitsSigned w64 (negsuc n) × (to_z w64 (of_z w64 (negsuc 0 -ℤ to_z w64 n)) ≡ negsuc n)
fits-negative n h = (search rules, omega (arith, ints))

-- the digit that is added
digit_at : (complemented : Bool) (octets : List ℕ) (k : ℕ) → k < length octets → cond complemented (complement (get_or octets k 0)) (get_or octets k 0) ≡ get_or (cond complemented (map complement octets) octets) k 0
digit_at true [] k h = absurd (omega arith)
digit_at true (x ∷ xs) zero h = refl
digit_at true (x ∷ xs) (suc k) h = digit_at true xs k (omega arith)
digit_at false octets k h = refl

-- there are as many digits as octets
length-digits : (complemented : Bool) (octets : List ℕ) → length (cond complemented (map complement octets) octets) ≡ length octets
length-digits true octets = length-complement octets
length-digits false octets = refl

-- one more of at most eight digits
pub record HasDigit (complemented : Bool) (octets : List ℕ) (k number : ℕ) : Type 0 where
  pub fits : number < 2 ^ 64
  pub is : number ≡ number_from_digits 256 (take (k + 1) (cond complemented (map complement octets) octets))
  pub bound : number < 2 ^ (8 * (k + 1))

pub next_digit : (complemented : Bool) (octets : List ℕ) (k number digit : ℕ) → k < length octets → length octets ≤ 8 → digit ≡ cond complemented (complement (get_or octets k 0)) (get_or octets k 0) → digit < 256 → number ≡ number_from_digits 256 (take k (cond complemented (map complement octets) octets)) → number < 2 ^ (8 * k) → HasDigit complemented octets k (number * 256 + digit)
next_digit complemented octets k number digit inside few e small front bound =
    let ds = cond complemented (map complement octets) octets in
    let here : k < length ds = omega (arith, length-digits complemented octets) in
    let room : 2 ^ (8 * k) ≤ 2 ^ 56 = pow_mono {i = 8 * k} {j = 56} (omega arith) in
    let next : 8 * (k + 1) ≡ 8 * k + 8 = omega arith in
    record {
      fits = omega arith;
      is = omega (arith, number_more 256 ds k here, digit_at complemented octets k inside);
      bound = rw (next, pow-add 2 (8 * k) 8) (omega arith);
    }
