-- Bytes, as definitions see them.
use Rattle.std.specs.Prelude.{ℕ, List}

-- octets, one after another
abbrev pub Bytes : Type 0
Bytes = List ℕ
