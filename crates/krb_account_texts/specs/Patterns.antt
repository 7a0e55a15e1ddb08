-- Patterns of names, as a shell has them: `*` (42) matches any characters, `?` (63) one, and each other character itself.
use Rattle.std.specs.Prelude.{◌≡◌, ◌≤◌, ◌+◌, ◌||◌, ◌&&◌, ◌==◌, ℕ, Bool, true, false, if◌then◌else◌, List, [], ◌∷◌, length, drop, get_or, codes, refl}

-- The whole text passes, or what is left after its first characters, however many.
abbrev pub some_end : (List ℕ → Bool) → List ℕ → Bool
some_end test [] = test []
some_end test (character ∷ text) = test (character ∷ text) || some_end test text

-- The text has a first character, it passes, and the rest passes.
abbrev pub first_then : (ℕ → Bool) → (List ℕ → Bool) → List ℕ → Bool
first_then first rest [] = false
first_then first rest (character ∷ text) = first character && rest text

-- A mark that isn't `*` matches this character.
abbrev pub stands_for : ℕ → ℕ → Bool
stands_for mark character = (mark == 63) || (mark == character)

abbrev pub is_empty : List ℕ → Bool
is_empty [] = true
is_empty (character ∷ text) = false

-- The text passes if its front fits a mark, and the rest passes.
abbrev pub front_fits : ℕ → (List ℕ → Bool) → List ℕ → Bool
front_fits mark rest = if mark == 42 then some_end rest else first_then (stands_for mark) rest

-- The text is one that the pattern matches.
abbrev pub matches : List ℕ → List ℕ → Bool
matches [] = is_empty
matches (mark ∷ pattern) = front_fits mark (matches pattern)

-- For each end of the text, whether the pattern matches it.
pub record IsRow (pattern text : List ℕ) (row : List Bool) : Type 0 where
  pub size : length row ≡ length text + 1
  pub known : (k : ℕ) → k ≤ length text → get_or row k false ≡ matches pattern (drop k text)

hosts : matches (codes "host/*") (codes "host/server.example.com") ≡ true
hosts = refl

all : matches (codes "*") [] ≡ true
all = refl

one : matches (codes "user?") (codes "user") ≡ false
one = refl

inside : matches (codes "*-?/admin*") (codes "alice-b/admin") ≡ true
inside = refl
