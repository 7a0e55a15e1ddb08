-- RSA's private operation is the inverse of its public one (RFC 8017, sections 5.1 and 5.2).
use Rattle.std.proofs.Common.{◌≡◌, ℕ, ◌+◌, ◌-◌, ◌*◌, ◌%◌, ◌^◌, ◌<◌, sym, ap, ◌∙◌, subst, arith}
use Rattle.std.proofs.Math.Nat.{mod-mod, mod-eq_of_lt, add-mod-mod, add-mul-mod_self_left, add-mul-mod_self_right, mod-mod_of_dvd, dvd-mul_left, dvd-mul_right, mul_comm, one-mul}
use Rattle.std.proofs.lemmas.Nat.{mul-mod_first, mul-mod_second, pow-mod}
use Rattle.std.specs.Int.{◌∣◌}
use Rattle.public_key_cryptography.specs.OddPrimes.{IsCongruent, IsOddPrime}
use Rattle.modular_arithmetic.proofs.Forms.{power-mul}
use Rattle.public_key_cryptography.proofs.Divisors.{both}
use Rattle.public_key_cryptography.proofs.Fermat.{inverse}
use Rattle.public_key_cryptography.specs.RightKeys.{AreFactors, ArePair, IsFirstForm, IsSecondForm}

-- a power by an exponent, raised to the exponent's inverse
raised_back : (p e d m s : ℕ) → IsOddPrime p → IsCongruent (p - 1) (e * d) 1 → IsCongruent p s (m ^ d) → IsCongruent p (s ^ e) m
raised_back p e d m s prime pair root =
    sym (pow-mod s e p) ∙ ap (λ k. k ^ e % p) root ∙ pow-mod (m ^ d) e p
    ∙ ap (λ k. k % p) (sym (power-mul m d e) ∙ ap (λ k. m ^ k) (mul_comm d e))
    ∙ inverse p m (e * d) prime pair

-- powers by two inverses of one exponent are the same
same_power : (p e d c m : ℕ) → IsOddPrime p → IsCongruent (p - 1) (e * d) 1 → IsCongruent (p - 1) (e * c) 1 → IsCongruent p (m ^ d) (m ^ c)
same_power p e d c m prime one other =
    sym (sym (pow-mod (m ^ (e * c)) d p) ∙ ap (λ k. k ^ d % p) (inverse p m (e * c) prime other) ∙ pow-mod m d p)
    ∙ ap (λ k. k % p) (sym (power-mul m (e * c) d) ∙ ap (λ k. m ^ k) (let f : e * c * d ≡ e * d * c = omega arith in f) ∙ power-mul m (e * d) c)
    ∙ sym (pow-mod (m ^ (e * d)) c p) ∙ ap (λ k. k ^ c % p) (inverse p m (e * d) prime one) ∙ pow-mod m c p

first_divides : (n p q : ℕ) → AreFactors n p q → p ∣ n
first_divides n p q f = subst (λ (k : ℕ). p ∣ k) (sym f.product) (dvd-mul_right p q)

second_divides : (n p q : ℕ) → AreFactors n p q → q ∣ n
second_divides n p q f = subst (λ (k : ℕ). q ∣ k) (sym f.product) (dvd-mul_left q p)

-- numbers that are the same modulo both primes are so modulo n
same : (n p q x y : ℕ) → AreFactors n p q → IsCongruent p x y → IsCongruent q x y → IsCongruent n x y
same n p q x y f by_p by_q =
    ap (λ k. x % k) f.product ∙ both p q x y f.prime1 f.prime2 f.distinct by_p by_q ∙ ap (λ k. y % k) (sym f.product)

-- RSAVP1 of RSASP1 by the first form (5.2.1, step 2.a)
pub exponent_back : (n e d m : ℕ) → IsFirstForm n e d → m < n → (m ^ d % n) ^ e % n ≡ m
exponent_back n e d m h less =
    same n h.p h.q ((m ^ d % n) ^ e) m h.factors
    (raised_back h.p e d m (m ^ d % n) h.factors.prime1 h.pair.modulo1 (mod-mod_of_dvd h.p {b = n} (m ^ d) (first_divides n h.p h.q h.factors)))
    (raised_back h.q e d m (m ^ d % n) h.factors.prime2 h.pair.modulo2 (mod-mod_of_dvd h.q {b = n} (m ^ d) (second_divides n h.p h.q h.factors)))
    ∙ mod-eq_of_lt less

-- what an inverse modulo p takes back
unit_back : (p q c y : ℕ) → IsCongruent p (q * c) 1 → (q * ((y * c) % p)) % p ≡ y % p
unit_back p q c y unit =
    mul-mod_second q (y * c) p
    ∙ ap (λ k. k % p) (let f : q * (y * c) ≡ q * c * y = omega arith in f)
    ∙ sym (mul-mod_first (q * c) y p)
    ∙ ap (λ k. (k * y) % p) unit
    ∙ mul-mod_first 1 y p
    ∙ ap (λ k. k % p) (one-mul y)

-- Garner's sum modulo the first prime
modulo_first : (p q c a b : ℕ) → 0 < p → IsCongruent p (q * c) 1 → (b + q * (((a + b * (p - 1)) * c) % p)) % p ≡ a % p
modulo_first p q c a b some unit =
    sym (add-mod-mod b (q * (((a + b * (p - 1)) * c) % p)) p)
    ∙ ap (λ k. (b + k) % p) (unit_back p q c (a + b * (p - 1)) unit)
    ∙ add-mod-mod b (a + b * (p - 1)) p
    ∙ ap (λ k. k % p) (let f : b + (a + b * (p - 1)) ≡ a + b * p = omega (arith, ap (λ k. b * k) (let g : 1 + (p - 1) ≡ p = omega arith in g)) in f)
    ∙ add-mul-mod_self_right a b p

-- RSASP1 by the second form (5.2.1, step 2.b)
abbrev pub by_primes : (n p q dP dQ qInv m : ℕ) → ℕ
by_primes n p q dP dQ qInv m = (m ^ dQ % q + q * (((m ^ dP % p + m ^ dQ % q * (p - 1)) * qInv) % p)) % n

first_root : (n e p q dP dQ c m : ℕ) → IsSecondForm n e p q dP dQ c → IsCongruent p (by_primes n p q dP dQ c m) (m ^ dP)
first_root n e p q dP dQ c m h =
    mod-mod_of_dvd p {b = n} (m ^ dQ % q + q * (((m ^ dP % p + m ^ dQ % q * (p - 1)) * c) % p)) (first_divides n p q h.factors)
    ∙ modulo_first p q c (m ^ dP % p) (m ^ dQ % q) (let f : 0 < p = omega (arith, h.factors.prime1.above) in f) h.coefficient
    ∙ mod-mod (m ^ dP) p

second_root : (n e p q dP dQ c m : ℕ) → IsSecondForm n e p q dP dQ c → IsCongruent q (by_primes n p q dP dQ c m) (m ^ dQ)
second_root n e p q dP dQ c m h =
    mod-mod_of_dvd q {b = n} (m ^ dQ % q + q * (((m ^ dP % p + m ^ dQ % q * (p - 1)) * c) % p)) (second_divides n p q h.factors)
    ∙ add-mul-mod_self_left (m ^ dQ % q) q (((m ^ dP % p + m ^ dQ % q * (p - 1)) * c) % p)
    ∙ mod-mod (m ^ dQ) q

-- RSAVP1 of RSASP1 by the second form
pub primes_back : (n e p q dP dQ c m : ℕ) → IsSecondForm n e p q dP dQ c → m < n → by_primes n p q dP dQ c m ^ e % n ≡ m
primes_back n e p q dP dQ c m h less =
    same n p q (by_primes n p q dP dQ c m ^ e) m h.factors
    (raised_back p e dP m (by_primes n p q dP dQ c m) h.factors.prime1 h.exponent1 (first_root n e p q dP dQ c m h))
    (raised_back q e dQ m (by_primes n p q dP dQ c m) h.factors.prime2 h.exponent2 (second_root n e p q dP dQ c m h))
    ∙ mod-eq_of_lt less

-- both forms come to one number
pub one_root : (n e d p q dP dQ c m : ℕ) → IsSecondForm n e p q dP dQ c → ArePair e d p q → by_primes n p q dP dQ c m ≡ m ^ d % n
one_root n e d p q dP dQ c m h pair =
    sym (mod-mod (m ^ dQ % q + q * (((m ^ dP % p + m ^ dQ % q * (p - 1)) * c) % p)) n)
    ∙ same n p q (by_primes n p q dP dQ c m) (m ^ d) h.factors
    (first_root n e p q dP dQ c m h ∙ same_power p e dP d m h.factors.prime1 h.exponent1 pair.modulo1)
    (second_root n e p q dP dQ c m h ∙ same_power q e dQ d m h.factors.prime2 h.exponent2 pair.modulo2)
