-- A value of which there is one at most is found, or there is none.
use Rattle.std.specs.Prelude.{Option, None, Some}

-- what was found is such a value, or nothing was found and there is no such value
abbrev pub IsFound : {A : Type 0} → (A → Type 0) → Option A → Type 0
IsFound {A} P None = (a : A) → P a → ⊥
IsFound P (Some a) = P a
