-- The elements of an array, a SEQUENCE of just so many (X.690, section 8.10).
use Rattle.std.specs.Prelude.{ℕ, Bool, true, false, ◌==◌, List, length}
use Rattle.asn1_der.specs.Tree.{Tree, Trees, absent, none, more, trees_of}

-- the trees where they are as many as there have to be; any others have none
abbrev pub trees_if : Bool → Trees → Trees
trees_if true trees = trees
trees_if false trees = more absent none

abbrev pub array_trees : {A : Type 0} → ℕ → (A → Tree) → List A → Trees
array_trees count tree items = trees_if (length items == count) (trees_of tree items)
