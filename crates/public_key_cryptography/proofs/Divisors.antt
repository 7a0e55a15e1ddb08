-- What a prime divides (Euclid's lemma), and congruences modulo two primes.
use Rattle.std.proofs.Common.{◌≡◌, ◌≢◌, ℕ, suc, ◌+◌, ◌-◌, ◌*◌, ◌/◌, ◌%◌, ◌<◌, ◌≤◌, ◌⊎◌, inl, inr, sym, ap, ◌∙◌, subst, arith}
use Rattle.std.proofs.Math.Nat.{mod-lt, div-add-mod, eq-zero-or-pos, add-mul-mod_self_left, dvd-mul_right, dvd-mul_right_of_dvd, dvd-add_iff_right, dvd-sub, mul-dvd-mul_left, mul-div_cancel', dvd_of_mod-eq-zero, one-mul}
use Rattle.std.proofs.lemmas.Bool.{cases_lt}
use Rattle.std.specs.Int.{◌∣◌}
use Prim.Native.Nat.{zero}
use Rattle.public_key_cryptography.specs.OddPrimes.{IsCongruent, IsOddPrime}

-- a divisor of a product divides the product of a remainder
remainder : (p q a r b : ℕ) → p * q + r ≡ a → p ∣ a * b → p ∣ r * b
remainder p q a r b e h =
    (dvd-add_iff_right p {m = p * (q * b)} {n = r * b} (dvd-mul_right p (q * b))).1 (subst (λ (n : ℕ). p ∣ n) (let f : a * b ≡ p * (q * b) + r * b = omega (arith, ap (λ n. n * b) e) in f) h)

-- a prime that divides the product of b and a lower number divides b
pub lower : (fuel p a b : ℕ) → IsOddPrime p → a < fuel → 0 < a → a < p → p ∣ a * b → p ∣ b
lower zero p a b prime less some small h = absurd (omega arith)
lower (suc fuel) p a b prime less some small h =
    elim (eq-zero-or-pos (p % a)) [
      | inl none ↦ elim (prime.only a (dvd_of_mod-eq-zero a {n = p} none)) [
        | inl one ↦ subst (λ (n : ℕ). p ∣ n) (ap (λ n. n * b) one ∙ one-mul b) h
        | inr same ↦ absurd (omega arith)
      ]
      | inr left ↦
          lower fuel p (p % a) b prime (let f : p % a < fuel = omega (arith, mod-lt p some) in f) left (let f : p % a < p = omega (arith, mod-lt p some) in f)
          ((dvd-add_iff_right p {m = a * b * (p / a)} {n = p % a * b} (dvd-mul_right_of_dvd p {b = a * b} h (p / a))).1
          (subst (λ (n : ℕ). p ∣ n) (let f : p * b ≡ a * b * (p / a) + p % a * b = omega (arith, ap (λ n. n * b) (div-add-mod p a)) in f) (dvd-mul_right p b)))
    ]

-- a prime that divides a product divides one of its factors
pub either : (p a b : ℕ) → IsOddPrime p → p ∣ a * b → (p ∣ a) ⊎ (p ∣ b)
either p a b prime h =
    let some : 0 < p = omega (arith, prime.above) in
    elim (eq-zero-or-pos (a % p)) [
      | inl none ↦ inl (dvd_of_mod-eq-zero p {n = a} none)
      | inr left ↦ inr (lower (suc (a % p)) p (a % p) b prime (let f : a % p < suc (a % p) = omega arith in f) left (mod-lt a some) (remainder p (a / p) a (a % p) b (div-add-mod a p) h))
    ]

apart : (m x y : ℕ) → IsCongruent m x y → m ∣ y - x
apart m x y e =
    subst (λ (n : ℕ). m ∣ n) (let f : m * (y / m) - m * (x / m) ≡ y - x = omega (arith, div-add-mod x m, div-add-mod y m, e) in f)
    (dvd-sub m {m = m * (y / m)} {n = m * (x / m)} (dvd-mul_right m (y / m)) (dvd-mul_right m (x / m)))

joined : (m x y : ℕ) → x ≤ y → m ∣ y - x → IsCongruent m x y
joined m x y le h =
    sym (add-mul-mod_self_left x m ((y - x) / m)) ∙ ap (λ n. n % m) (let f : x + m * ((y - x) / m) ≡ y = omega (arith, mul-div_cancel' m {m = y - x} h) in f)

-- two primes of which one divides the other are the same
not_divides : (p q : ℕ) → IsOddPrime p → IsOddPrime q → p ≢ q → q ∣ p → ⊥
not_divides p q prime other distinct h =
    elim (prime.only q h) [ inl one ↦ absurd (omega (arith, other.above)) | inr same ↦ absurd (distinct (sym same)) ]

ordered : (p q x y : ℕ) → IsOddPrime p → IsOddPrime q → p ≢ q → x ≤ y → IsCongruent p x y → IsCongruent q x y → IsCongruent (p * q) x y
ordered p q x y prime other distinct le by_p by_q =
    let k : ℕ = (y - x) / p in
    let whole : p * k ≡ y - x = mul-div_cancel' p {m = y - x} (apart p x y by_p) in
    elim (either q p k other (subst (λ (n : ℕ). q ∣ n) (sym whole) (apart q x y by_q))) [
      | inl h ↦ absurd (not_divides p q prime other distinct h)
      | inr h ↦ joined (p * q) x y le (subst (λ (n : ℕ). p * q ∣ n) whole (mul-dvd-mul_left q {c = k} p h))
    ]

-- numbers that are congruent modulo two primes are so modulo their product
pub both : (p q x y : ℕ) → IsOddPrime p → IsOddPrime q → p ≢ q → IsCongruent p x y → IsCongruent q x y → IsCongruent (p * q) x y
both p q x y prime other distinct by_p by_q =
    elim (cases_lt x y) [
      | inl less ↦ ordered p q x y prime other distinct (let f : x ≤ y = omega arith in f) by_p by_q
      | inr above ↦ sym (ordered p q y x prime other distinct above (sym by_p) (sym by_q))
    ]
