-- Whole numbers, which have any size and sign.
use Rattle.std.specs.Prelude.{ℕ, Bool, false, ◌==◌, ℤ, pos, negsuc}

-- the whole number is this natural one
abbrev pub is_number : ℕ → ℤ → Bool
is_number n (pos m) = m == n
is_number n (negsuc m) = false
