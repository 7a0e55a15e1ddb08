-- Layouts: a list of parts, each of which is at its place.
use Rattle.std.specs.Prelude.{◌≡◌, ℕ, ◌+◌, ◌≤◌, ◌<◌, List, [], ◌∷◌, ◌++◌, length, take, drop}

-- bytes, and the place of the first of them
pub record Part : Type 0 where
  pub place : ℕ
  pub bytes : List ℕ

-- bytes with the place of the first of them
abbrev pub part : ℕ → List ℕ → Part
part place bytes = record { place = place; bytes = bytes }

-- the place behind a part
abbrev pub end_of : Part → ℕ
end_of p = p.place + length p.bytes

-- the part's bytes are at its place
abbrev pub Stands : Part → List ℕ → Type 0
Stands p whole = take (length p.bytes) (drop p.place whole) ≡ p.bytes

-- laid out: each part is at its place
abbrev pub IsLaidOut : List Part → List ℕ → Type 0
IsLaidOut [] whole = Unit {0}
IsLaidOut (p ∷ ps) whole = Stands p whole × IsLaidOut ps whole

-- the part's bytes written to its place
unfoldable pub put : Part → List ℕ → List ℕ
put p whole = take p.place whole ++ (p.bytes ++ drop (p.place + length p.bytes) whole)

-- each part written to its place, in turn
abbrev pub put_all : List Part → List ℕ → List ℕ
put_all [] whole = whole
put_all (p ∷ ps) whole = put_all ps (put p whole)

-- the part has a byte at k
abbrev pub Covers : Part → ℕ → Type 0
Covers p k = (p.place ≤ k) × (k < end_of p)

-- no place is covered by both
abbrev pub AreApart : Part → Part → Type 0
AreApart p q = (k : ℕ) → Covers p k → Covers q k → ⊥

-- the part is apart from each of these
abbrev pub IsApartFrom : Part → List Part → Type 0
IsApartFrom p [] = Unit {0}
IsApartFrom p (q ∷ qs) = AreApart p q × IsApartFrom p qs

-- any two of the parts are apart
abbrev pub AreAllApart : List Part → Type 0
AreAllApart [] = Unit {0}
AreAllApart (p ∷ ps) = IsApartFrom p ps × AreAllApart ps

-- each part ends within so many bytes
abbrev pub AreInside : ℕ → List Part → Type 0
AreInside size [] = Unit {0}
AreInside size (p ∷ ps) = (end_of p ≤ size) × AreInside size ps
