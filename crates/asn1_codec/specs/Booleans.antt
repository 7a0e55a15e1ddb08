-- BOOLEAN (X.690, section 8.2).
use Rattle.std.specs.Prelude.{◌≡◌, ℕ, Bool, true, false, List, [], ◌∷◌, refl}

-- A BOOLEAN is one octet, of which all bits are the truth: 00 or FF (X.690, sections 8.2.2 and 11.1). Test: `truth_and_nothing` of
-- `built_in.rt`.
abbrev pub bool_content : Bool → List ℕ
bool_content false = 0x00 ∷ []
bool_content true = 0xFF ∷ []

bool_content_true : bool_content true ≡ 0xFF ∷ []
bool_content_true = refl

bool_content_false : bool_content false ≡ 0x00 ∷ []
bool_content_false = refl
