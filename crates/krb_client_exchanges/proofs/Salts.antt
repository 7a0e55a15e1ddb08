-- Octets that are parts one behind the other.
use Rattle.std.proofs.Common.{◌≡◌, ◌≢◌, ℕ, false, nat_eq, List, [], ◌∷◌, ◌++◌, refl, inl, inr}
use Rattle.std.specs.Cmp.Lexicographic.{pointwise}
use Rattle.std.proofs.lemmas.Bool.{cases_Bool, eq-eqb}
use Rattle.std.proofs.lemmas.Bool.Decides.{Decides-eqb}
use Rattle.std.proofs.lemmas.Slice.Eq.{slice_eq-Decides}

-- what precedes both doesn't count
pub same_front : (front a b : List ℕ) → pointwise nat_eq (front ++ a) (front ++ b) ≡ pointwise nat_eq a b
same_front [] a b = refl
same_front (x ∷ front) a b = rw (eq-eqb x x refl) (same_front front a b)

-- octets that don't begin with the front aren't equal to any that do
pub no_front : (octets front more : List ℕ) → ((rest : List ℕ) → octets ≢ front ++ rest) → pointwise nat_eq octets (front ++ more) ≡ false
no_front octets front more never = elim (cases_Bool (pointwise nat_eq octets (front ++ more))) [
  | inl same ↦ absurd (never more ((slice_eq-Decides Decides-eqb octets (front ++ more) (pointwise nat_eq octets (front ++ more)) refl).0 same))
  | inr other ↦ other
]
