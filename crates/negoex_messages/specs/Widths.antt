-- No header of a type of which messages are made up has more than 40 bytes.
use Rattle.std.proofs.Common.{◌≡◌, ℕ, ◌≤◌, true}
use Rattle.std.specs.Prelude.{nat_le}
use Rattle.std.proofs.lemmas.Bool.{leb-true}

pub at_most_40 : (n : ℕ) → nat_le n 40 ≡ true → n ≤ 40
at_most_40 n e = leb-true n 40 e
