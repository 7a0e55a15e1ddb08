-- The digits of a number to the base 256 are std's, and so have its laws.
use Rattle.std.proofs.Common.{◌≡◌, ℕ, zero, suc, ◌+◌, ◌*◌, ◌/◌, ◌%◌, ◌^◌, ◌<◌, ◌≤◌, [], ◌∷◌, ◌++◌, length, eqb, refl, sym, ap, ◌∙◌, arith}
use Rattle.std.proofs.lemmas.Bool.{ne_eqb, cond-false}
use Rattle.std.proofs.lemmas.List.{length-append}
use Rattle.std.proofs.lemmas.Nat.{pow-add}
use Rattle.std.proofs.Math.Pow.{pow_mono}
use Rattle.std.proofs.lemmas.Int.Digits.{same_from_digits_of, number_digits_of, digits_of_step, length-digits_of-le}
use Rattle.std.specs.Int.Digits.{digits_with_fuel, digits_of, number_from_digits}
use Rattle.asn1_der.specs.Length.{digits_within, digits}

digits_within-is : (steps n : ℕ) → digits_within steps n ≡ digits_with_fuel 256 steps n
unfolding digits_within
digits_within-is zero n = refl
digits_within-is (suc steps) zero = refl
digits_within-is (suc steps) (suc n) =
    ap (λ front. front ++ (suc n % 256 ∷ [])) (digits_within-is steps (suc n / 256))
    ∙ sym (cond-false (eqb (suc n) 0) [] (digits_with_fuel 256 steps (suc n / 256) ++ (suc n % 256 ∷ [])) (ne_eqb (suc n) 0 (λ e. omega arith)))

pub digits-is : (n : ℕ) → digits n ≡ digits_of 256 n
unfolding digits
digits-is n = digits_within-is n n

-- digits write one number
pub digits-one : (m n : ℕ) → digits m ≡ digits n → m ≡ n
digits-one m n e = same_from_digits_of 256 m n (omega arith) (sym (digits-is m) ∙ e ∙ digits-is n)

-- and which it is can be computed from them
pub number-digits : (n : ℕ) → number_from_digits 256 (digits n) ≡ n
number-digits n = ap (number_from_digits 256) (digits-is n) ∙ number_digits_of 256 n (omega arith)

pub digits-zero : digits 0 ≡ []
unfolding digits digits_within
digits-zero = refl

-- the last digit, and those of the rest of the number
pub digits-step : (n : ℕ) → 0 < n → digits n ≡ digits (n / 256) ++ (n % 256 ∷ [])
digits-step n positive =
    digits-is n ∙ digits_of_step 256 n (omega arith) positive ∙ sym (ap (λ front. front ++ (n % 256 ∷ [])) (digits-is (n / 256)))

pub length-digits-step : (n : ℕ) → 0 < n → length (digits n) ≡ length (digits (n / 256)) + 1
length-digits-step n positive = rw (digits-step n positive) (length-append (digits (n / 256)) (n % 256 ∷ []))

-- a length of this machine has at most eight digits
pub length-digits-le : (n : ℕ) → n < 2 ^ 64 → length (digits n) ≤ 8
length-digits-le n small = rw (digits-is n) (length-digits_of-le 256 8 n (omega arith) small)

-- a digit more to the right of a number of i digits
pub digit_fits : (n i d : ℕ) → n < 2 ^ (8 * i) → d < 256 → n * 256 + d < 2 ^ (8 * (i + 1))
digit_fits n i d small digit =
    let more : 2 ^ (8 * i + 8) ≡ 2 ^ (8 * i) * 2 ^ 8 = pow-add 2 (8 * i) 8 in
    let where_to : 8 * (i + 1) ≡ 8 * i + 8 = omega arith in
    rw (where_to, more) (omega arith)

pub digit_room : (n i d : ℕ) → n < 2 ^ (8 * i) → i < 8 → d < 256 → n * 256 + d < 2 ^ 64
digit_room n i d small room digit =
    let bound : 2 ^ (8 * i) ≤ 2 ^ 56 = pow_mono {i = 8 * i} {j = 56} (omega arith) in
    omega arith
