-- A size is small where a test says so.
use Rattle.std.specs.Prelude.{◌≡◌, ℕ, true, ◌<◌, ◌^◌}
use Rattle.std.specs.Bool.{nat_lt}
use Rattle.std.proofs.lemmas.Bool.{ltb-true}

pub small : (n : ℕ) → nat_lt n (2 ^ 63) ≡ true → n < 2 ^ 63
small n e = ltb-true n (2 ^ 63) e
