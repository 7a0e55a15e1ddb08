-- Which refusal comes first.
use Rattle.std.proofs.Common.{◌≡◌, ℕ, ◌-◌, ◌*◌, ◌^◌, ◌<◌, ◌≤◌, false, eqb, ltb, ◌||◌, ◌&&◌, List, [], ◌∷◌, length, get_or, Option, Some, None, sym, ap, ◌∙◌, arith}
use Rattle.std.proofs.Math.Nat.{mul-le-mul_right}
use Rattle.std.proofs.lemmas.Bool.Decides.{nat_tests}
use Rattle.std.proofs.lemmas.Int.Digits as digits
use Rattle.modular_arithmetic.specs.declared.modulus.ModulusRefusal.{ModulusRefusal}
use Rattle.modular_arithmetic.specs.Naturals.{number_in, os2ip}
use Rattle.modular_arithmetic.specs.Refusals.{refusal_of as modulus_refusal_of}
use Rattle.modular_arithmetic.proofs.OctetSteps.{all-below, number-begins}
use Rattle.modular_arithmetic.proofs.Taken.{not_below, not_first, taken}
use Rattle.modular_arithmetic.proofs.Numbers.{number-cons, number-nil}
use Rattle.public_key_cryptography.specs.declared.public_key.KeyRefusal.{KeyRefusal}
use Rattle.public_key_cryptography.specs.declared.public_key.KeyRefusal.TheVariants.{Modulus}
use Rattle.public_key_cryptography.specs.Keys.{after_modulus, further_refusal, is_weak, refusal_of}

pub by_modulus : (n e : List ℕ) (refusal : ModulusRefusal) → modulus_refusal_of n ≡ Some refusal → refusal_of n e ≡ Some (Modulus refusal)
unfolding refusal_of
by_modulus n e refusal h = ap (λ first. after_modulus first (further_refusal n e)) h

pub by_further : (n e : List ℕ) (given : Option KeyRefusal) → modulus_refusal_of n ≡ None → given ≡ further_refusal n e → refusal_of n e ≡ given
unfolding refusal_of
by_further n e given h f = ap (λ first. after_modulus first (further_refusal n e)) h ∙ sym f

not_weak : (l f : ℕ) → (ltb l 256 || eqb l 256 && ltb f 128) ≡ false → 256 ≤ l
not_weak l f e = grind (arith, nat_tests)

pub record Fits (n e : List ℕ) : Type 0 where
  pub strong : 256 ≤ length n
  pub short : length e ≤ 8
  pub great : 2 ≤ os2ip e

pub fits : (n e : List ℕ) → further_refusal n e ≡ None → Fits n e
fits n e h =
    let weak = not_first (is_weak n) _ _ h in
    let long = not_first _ _ _ weak.1 in
    let small = not_first _ _ _ long.1 in
    record {
      strong = not_weak (length n) (get_or n 0 0) weak.0;
      short = not_below 8 (length e) long.0;
      great = not_below (os2ip e) 2 small.0;
    }

-- the number of one word
pub single : (words : List ℕ) → length words ≡ 1 → get_or words 0 0 ≡ number_in (2 ^ 64) words
single [] e = absurd (omega arith)
single (x ∷ []) e = omega (arith, number-cons (2 ^ 64) x [], number-nil (2 ^ 64))
single (x ∷ y ∷ ys) e = absurd (omega arith)

-- a modulus's number by how many octets it has
pub modulus-below : (n : List ℕ) → ((k : ℕ) → get_or n k 0 < 256) → os2ip n < 256 ^ length n
modulus-below n small = digits.number_lt 256 n (all-below 256 n small)

pub modulus-high : (n : List ℕ) → modulus_refusal_of n ≡ None → 256 ^ (length n - 1) ≤ os2ip n
modulus-high [] h = absurd (let t = taken [] h in omega (arith, t.least))
modulus-high (x ∷ xs) h =
    let t = taken (x ∷ xs) h in
    let times : 1 * 256 ^ length xs ≤ x * 256 ^ length xs = mul-le-mul_right (256 ^ length xs) (let f : 1 ≤ x = t.first in f) in
    let last : 256 ^ length xs ≡ 256 ^ (length (x ∷ xs) - 1) = ap (λ k. 256 ^ k) (let f : length xs ≡ length (x ∷ xs) - 1 = omega arith in f) in
    omega (arith, times, number-begins 256 x xs, last)
