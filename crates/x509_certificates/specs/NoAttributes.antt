-- There is one empty list, and it can be written.
use Rattle.std.proofs.Common.{◌≡◌, ℕ, List, [], ◌∷◌, length, refl, arith}
use Rattle.std.specs.Prelude.{◌==◌, IsTrue}
use Rattle.std.proofs.lemmas.Bool.{eqb-true}
use Rattle.asn1_der.specs.Tree.{Tree, IsWhole, trees_of}
use Rattle.asn1_der.specs.Tagged.{sequence}

not_empty : {T : Type 0} (x : T) (xs : List T) → IsTrue (length (x ∷ xs) == 0) → ⊥
not_empty x xs none = omega (arith, eqb-true (length (x ∷ xs)) 0 none)

pub one_empty : {T : Type 0} (xs ys : List T) → IsTrue (length xs == 0) → IsTrue (length ys == 0) → xs ≡ ys
one_empty [] [] left right = refl
one_empty (x ∷ xs) ys left right = absurd (not_empty x xs left)
one_empty [] (y ∷ ys) left right = absurd (not_empty y ys right)

pub empty_whole : {T : Type 0} (tree : T → Tree) (first : ℕ) (xs : List T) → IsTrue (length xs == 0) → IsWhole (sequence (trees_of tree) first xs)
empty_whole tree first [] none = tt
empty_whole tree first (x ∷ xs) none = absurd (not_empty x xs none)
