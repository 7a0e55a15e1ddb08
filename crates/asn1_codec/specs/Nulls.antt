-- NULL (X.690, section 8.8).
use Rattle.std.specs.Prelude.{ℕ, ⊤, List, []}

-- no octets (8.8.2)
abbrev pub null_content : ⊤ → List ℕ
null_content _ = []
