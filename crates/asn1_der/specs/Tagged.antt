-- Trees under a given identifier octet (X.690, section 8.1.2), which an implicit tag may change.
use Rattle.std.specs.Prelude.{ℕ, Bool, List}
use Rattle.asn1_der.specs.Tree.{Tree, Trees, constructed, leaf}

-- a constructed value is its parts
abbrev pub sequence : {T : Type 0} → (T → Trees) → ℕ → T → Tree
sequence trees octet parts = constructed octet (trees parts)

-- a primitive value is its content, where it is one of its type
abbrev pub leaf_as : {T : Type 0} → (T → Bool) → (T → List ℕ) → ℕ → T → Tree
leaf_as is_valid content octet value = leaf (is_valid value) octet (content value)

-- a value that is distinguished by its row, of which `tree` is the tree under each octet
abbrev pub tagged_tree : {R T : Type 0} → ℕ → (ℕ → R → Tree) → (T → R) → T → Tree
tagged_tree first tree row_of value = tree first (row_of value)
