-- Fermat's theorem, by the binomial theorem: a prime divides each inner binomial coefficient of its row.
use Rattle.std.proofs.Common.{◌≡◌, ℕ, suc, ◌+◌, ◌-◌, ◌*◌, ◌/◌, ◌%◌, ◌^◌, ◌<◌, refl, sym, ap, ◌∙◌, subst, arith}
use Rattle.std.proofs.Math.Nat.{mod-add-mod, add-mod-mod, pow-suc, pow-zero, add-mul-mod_self_left, div-add-mod, mod-eq_of_lt, dvd-mul_right, mul-div_cancel'}
use Rattle.std.proofs.lemmas.Nat.{mul-mod_first, pow-add}
use Rattle.std.specs.Int.{◌∣◌}
use Prim.Native.Nat.{zero}
use Rattle.public_key_cryptography.specs.OddPrimes.{IsCongruent, IsOddPrime}
use Rattle.public_key_cryptography.proofs.Divisors.{lower}

-- the binomial coefficient, by Pascal's triangle
choose : ℕ → ℕ → ℕ
choose zero zero = 1
choose zero (suc k) = 0
choose (suc n) zero = 1
choose (suc n) (suc k) = choose n k + choose n (suc k)

choose-first : (n : ℕ) → choose n 0 ≡ 1
unfolding choose
choose-first zero = refl
choose-first (suc n) = refl

choose-none : (k : ℕ) → choose 0 (suc k) ≡ 0
unfolding choose
choose-none k = refl

choose-more : (n k : ℕ) → choose (suc n) (suc k) ≡ choose n k + choose n (suc k)
unfolding choose
choose-more n k = refl

choose-above : (n k : ℕ) → n < k → choose n k ≡ 0
choose-above n zero less = absurd (omega arith)
choose-above zero (suc k) less = choose-none k
choose-above (suc n) (suc k) less =
    omega (arith, choose-more n k, choose-above n k (let f : n < k = omega arith in f), choose-above n (suc k) (let f : n < suc k = omega arith in f))

choose-last : (n : ℕ) → choose n n ≡ 1
choose-last zero = choose-first 0
choose-last (suc n) = omega (arith, choose-more n n, choose-last n, choose-above n (suc n) (let f : n < suc n = omega arith in f))

-- a coefficient by the one before it in the row above
absorb : (n k : ℕ) → suc k * choose (suc n) (suc k) ≡ suc n * choose n k
absorb zero zero = omega (arith, choose-more 0 0, choose-first 0, choose-none 0)
absorb zero (suc k) =
    let none : choose 1 (suc (suc k)) ≡ 0 = omega (arith, choose-more 0 (suc k), choose-none k, choose-none (suc k)) in
    omega (arith, ap (λ c. suc (suc k) * c) none, choose-none k)
absorb (suc n) zero =
    omega (arith, choose-more (suc n) 0, absorb n 0, ap (λ c. suc n * c) (choose-first n), ap (λ c. suc (suc n) * c) (choose-first (suc n)), choose-first (suc n))
absorb (suc n) (suc k) =
    omega (arith, ap (λ c. suc (suc k) * c) (choose-more (suc n) (suc k)), absorb n (suc k), absorb n k, ap (λ c. suc n * c) (choose-more n k))

-- the first m terms of the power n of 1 + a
terms : ℕ → ℕ → ℕ → ℕ
terms n a zero = 0
terms n a (suc m) = terms n a m + choose n m * a ^ m

terms-none : (n a : ℕ) → terms n a 0 ≡ 0
unfolding terms
terms-none n a = refl

terms-more : (n a m : ℕ) → terms n a (suc m) ≡ terms n a m + choose n m * a ^ m
unfolding terms
terms-more n a m = refl

terms-row : (n a m : ℕ) → terms (suc n) a (suc m) ≡ terms n a (suc m) + a * terms n a m
terms-row n a zero =
    omega (
      arith,
      terms-more (suc n) a 0,
      terms-more n a 0,
      terms-none n a,
      terms-none (suc n) a,
      ap (λ c. a * c) (terms-none n a),
      ap (λ c. c * a ^ 0) (choose-first (suc n)),
      ap (λ c. c * a ^ 0) (choose-first n),
    )
terms-row n a (suc m) =
    omega (
      arith,
      terms-more (suc n) a (suc m),
      terms-more n a (suc m),
      terms-row n a m,
      ap (λ c. a * c) (terms-more n a m),
      ap (λ c. c * a ^ suc m) (choose-more n m),
      ap (λ c. choose n m * c) (pow-suc a m),
    )

binomial : (n a : ℕ) → (1 + a) ^ n ≡ terms n a (suc n)
binomial zero a = omega (arith, pow-zero (1 + a), terms-more 0 a 0, terms-none 0 a, ap (λ c. c * a ^ 0) (choose-first 0), pow-zero a)
binomial (suc n) a =
    omega (
      arith,
      pow-suc (1 + a) n,
      ap (λ c. c * (1 + a)) (binomial n a),
      terms-row n a (suc n),
      terms-more n a (suc n),
      ap (λ c. c * a ^ suc n) (choose-above n (suc n) (let f : n < suc n = omega arith in f)),
    )

inner : (n k : ℕ) → IsOddPrime (suc n) → suc k < suc n → suc n ∣ choose (suc n) (suc k)
inner n k prime less =
    lower (suc (suc k)) (suc n) (suc k) (choose (suc n) (suc k)) prime (let f : suc k < suc (suc k) = omega arith in f) (let f : 0 < suc k = omega arith in f) less
    (subst (λ (x : ℕ). suc n ∣ x) (sym (absorb n k)) (dvd-mul_right (suc n) (choose n k)))

dropped : (p x c t : ℕ) → p ∣ c → (x + c * t) % p ≡ x % p
dropped p x c t h =
    ap (λ n. n % p) (let f : x + c * t ≡ x + p * (c / p * t) = omega (arith, ap (λ n. n * t) (mul-div_cancel' p {m = c} h)) in f) ∙ add-mul-mod_self_left x p (c / p * t)

-- of the terms before the last one the first alone counts
terms-mod : (n a m : ℕ) → IsOddPrime (suc n) → m < suc n → terms (suc n) a (suc m) % suc n ≡ 1 % suc n
terms-mod n a zero prime less =
    ap (λ c. c % suc n) (let f : terms (suc n) a 1 ≡ 1 = omega (arith, terms-more (suc n) a 0, terms-none (suc n) a, ap (λ c. c * a ^ 0) (choose-first (suc n)), pow-zero a) in f)
terms-mod n a (suc m) prime less =
    ap (λ c. c % suc n) (terms-more (suc n) a (suc m))
    ∙ dropped (suc n) (terms (suc n) a (suc m)) (choose (suc n) (suc m)) (a ^ suc m) (inner n m prime less)
    ∙ terms-mod n a m prime (let f : m < suc n = omega arith in f)

raised : (n a : ℕ) → IsOddPrime (suc n) → IsCongruent (suc n) (a ^ suc n) a
raised n zero prime = ap (λ c. c % suc n) (let f : 0 ^ suc n ≡ 0 = omega (arith, pow-suc 0 n) in f)
raised n (suc a) prime =
    let power : suc a ^ suc n ≡ terms (suc n) a (suc n) + a ^ suc n =
    ap (λ c. c ^ suc n) (let f : suc a ≡ 1 + a = omega arith in f)
    ∙ (let f : (1 + a) ^ suc n ≡ terms (suc n) a (suc n) + a ^ suc n = omega (arith, binomial (suc n) a, terms-more (suc n) a (suc n), ap (λ c. c * a ^ suc n) (choose-last (suc n))) in f) in
    ap (λ c. c % suc n) power
    ∙ sym (mod-add-mod (terms (suc n) a (suc n)) (suc n) (a ^ suc n))
    ∙ ap (λ c. (c + a ^ suc n) % suc n) (terms-mod n a n prime (let f : n < suc n = omega arith in f))
    ∙ mod-add-mod 1 (suc n) (a ^ suc n)
    ∙ sym (add-mod-mod 1 (a ^ suc n) (suc n))
    ∙ ap (λ c. (1 + c) % suc n) (raised n a prime)
    ∙ add-mod-mod 1 a (suc n)
    ∙ ap (λ c. c % suc n) (let f : 1 + a ≡ suc a = omega arith in f)

-- Fermat's theorem: the power by a prime is the base, modulo the prime
pub fermat : (p a : ℕ) → IsOddPrime p → IsCongruent p (a ^ p) a
fermat zero a prime = absurd (omega (arith, prime.above))
fermat (suc n) a prime = raised n a prime

-- more exponents by which the power is the base
pub back : (p a k : ℕ) → IsOddPrime p → IsCongruent p (a ^ (1 + k * (p - 1))) a
back p a zero prime =
    ap (λ c. c % p) (ap (λ n. a ^ n) (let f : 1 + 0 * (p - 1) ≡ suc 0 = omega arith in f) ∙ pow-suc a 0 ∙ ap (λ c. c * a) (pow-zero a) ∙ (let f : 1 * a ≡ a = omega arith in f))
back p a (suc k) prime =
    let n : ℕ = 1 + k * (p - 1) in
    let last : p ≡ suc (p - 1) = omega (arith, prime.above) in
    ap (λ c. c % p) (ap (λ e. a ^ e) (let f : 1 + suc k * (p - 1) ≡ n + (p - 1) = omega arith in f) ∙ pow-add a n (p - 1))
    ∙ sym (mul-mod_first (a ^ n) (a ^ (p - 1)) p)
    ∙ ap (λ c. (c * a ^ (p - 1)) % p) (back p a k prime)
    ∙ mul-mod_first a (a ^ (p - 1)) p
    ∙ ap (λ c. c % p) ((let f : a * a ^ (p - 1) ≡ a ^ (p - 1) * a = omega arith in f) ∙ sym (pow-suc a (p - 1)) ∙ ap (λ e. a ^ e) (sym last))
    ∙ fermat p a prime

-- the power by exponents whose product is 1 modulo p - 1 is the base
pub inverse : (p a x : ℕ) → IsOddPrime p → IsCongruent (p - 1) x 1 → IsCongruent p (a ^ x) a
inverse p a x prime e =
    let one : 1 % (p - 1) ≡ 1 = mod-eq_of_lt (let f : 1 < p - 1 = omega (arith, prime.above) in f) in
    let k : ℕ = x / (p - 1) in
    let whole : x ≡ 1 + k * (p - 1) = omega (arith, div-add-mod x (p - 1), e, one) in
    ap (λ c. c % p) (ap (λ n. a ^ n) whole) ∙ back p a k prime
