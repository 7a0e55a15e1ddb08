-- A fact of all numbers below a bound by a test that computes.
use Rattle.std.proofs.Common.{◌≡◌, ◌==◌, ◌<◌, ℕ, zero, suc, Bool, true, false, ◌&&◌, inl, inr, arith, refl}
use Rattle.std.proofs.lemmas.Bool.{cases_lt, eqb-true}

unfoldable pub all_below : (ℕ → Bool) → ℕ → Bool
all_below p zero = true
all_below p (suc n) = p n && all_below p n

both : (a b : Bool) → (a && b) ≡ true → (a ≡ true) × (b ≡ true)
both true b e = (refl, e)
both false b e = cc

pub all_below_at : (p : ℕ → Bool) (n k : ℕ) → all_below p n ≡ true → k < n → p k ≡ true
unfolding all_below
all_below_at p zero k e h = absurd (omega arith)
all_below_at p (suc n) k e h =
    let parts = both (p n) (all_below p n) e in
    elim (cases_lt k n) [ inl below ↦ all_below_at p n k parts.1 below | inr past ↦ (let same : k ≡ n = omega arith in rw same parts.0) ]

-- two functions that agree on each byte, by test
pub same_at_byte : (f g : ℕ → ℕ) → all_below (λ x. f x == g x) 256 ≡ true → (b : ℕ) → b < 256 → f b ≡ g b
same_at_byte f g test b small = eqb-true _ _ (all_below_at (λ x. f x == g x) 256 b test small)
