-- Octets that aren't random.
use Rattle.std.specs.Prelude.{◌≡◌, ◌==◌, ℕ, Bool, true, false, List, [], ◌∷◌, refl}
use Rattle.std.specs.List.{list_all}

-- There is one octet or more, and all are the same.
abbrev pub is_repeated : List ℕ → Bool
is_repeated [] = false
is_repeated (first ∷ rest) = list_all (λ octet. octet == first) rest

zeros : is_repeated (0 ∷ 0 ∷ 0 ∷ []) ≡ true
zeros = refl

others : is_repeated (0 ∷ 0 ∷ 1 ∷ []) ≡ false
others = refl
