-- RSA keys whose numbers belong together (RFC 8017, section 3).
use Rattle.std.specs.Prelude.{◌≡◌, ◌≢◌, ℕ, ◌-◌, ◌*◌, Option, Some, None}
use Rattle.modular_arithmetic.specs.Naturals.{os2ip}
use Rattle.public_key_cryptography.specs.OddPrimes.{IsCongruent, IsOddPrime}
use Rattle.public_key_cryptography.specs.declared.private_key.PrivateKey.{PrivateKey}
use Rattle.public_key_cryptography.specs.declared.rsa_primes.Primes.{Primes}

-- the modulus n is the product of two distinct odd primes p and q (3.1)
pub record AreFactors (n p q : ℕ) : Type 0 where
  pub prime1 : IsOddPrime p
  pub prime2 : IsOddPrime q
  pub distinct : p ≢ q
  pub product : n ≡ p * q

-- e * d is 1 modulo p - 1 and modulo q - 1, and so modulo their least common multiple, lambda(n) (3.1, 3.2)
pub record ArePair (e d p q : ℕ) : Type 0 where
  pub modulo1 : IsCongruent (p - 1) (e * d) 1
  pub modulo2 : IsCongruent (q - 1) (e * d) 1

-- the first form of a private key: the exponents are a pair for the primes of the modulus (3.2)
pub record IsFirstForm (n e d : ℕ) : Type 0 where
  pub p : ℕ
  pub q : ℕ
  pub factors : AreFactors n p q
  pub pair : ArePair e d p q

-- the second form: e * dP is 1 modulo p - 1, e * dQ is 1 modulo q - 1, and q * qInv is 1 modulo p (3.2)
pub record IsSecondForm (n e p q dP dQ qInv : ℕ) : Type 0 where
  pub factors : AreFactors n p q
  pub exponent1 : IsCongruent (p - 1) (e * dP) 1
  pub exponent2 : IsCongruent (q - 1) (e * dQ) 1
  pub coefficient : IsCongruent p (q * qInv) 1

-- a key's numbers belong together: those of its primes, where it has them, and else its exponents
abbrev pub AreRight : Option Primes → ℕ → ℕ → ℕ → Type 0
AreRight (Some primes) n e d =
    IsSecondForm n e primes.first.modulus.value primes.second.modulus.value
    (os2ip primes.first.exponent.items) (os2ip primes.second.exponent.items) (os2ip primes.coefficient.items)
AreRight None n e d = IsFirstForm n e d

-- the key is right: it signs each message
abbrev pub IsRight : PrivateKey → Type 0
IsRight key = AreRight key.primes key.public.modulus.value key.public.exponent (os2ip key.exponent.items)
