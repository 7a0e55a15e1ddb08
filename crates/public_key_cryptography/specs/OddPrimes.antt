-- Odd primes and congruences (RFC 8017, sections 2 and 3).
use Rattle.std.specs.Prelude.{◌≡◌, ℕ, ◌%◌, ◌<◌, ◌⊎◌}
use Rattle.std.specs.Int.{◌∣◌}

-- a number above 2 that 1 and itself alone divide: an odd prime
pub record IsOddPrime (p : ℕ) : Type 0 where
  pub above : 2 < p
  pub only : (d : ℕ) → d ∣ p → (d ≡ 1) ⊎ (d ≡ p)

-- a and b are congruent modulo m
abbrev pub IsCongruent : ℕ → ℕ → ℕ → Type 0
IsCongruent m a b = a % m ≡ b % m
