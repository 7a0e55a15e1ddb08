-- An array's elements are distinguished by their spellings.
use Rattle.std.proofs.Common.{◌≡◌, ℕ, Bool, true, false, List, length, refl, sym, ap, subst, ◌∙◌}
use Rattle.std.specs.Prelude.{◌==◌}
use Rattle.std.proofs.lemmas.Bool.{eqb-true}
use Rattle.asn1_der.specs.Tree.{Tree, Trees, ders, AreWhole, trees_of}
use Rattle.asn1_der.specs.Seen.{Seen, Alike, seen_list}
use Rattle.asn1_der.proofs.Spelling.{IsInjectiveAs}
use Rattle.asn1_der.proofs.Rows.{AreInjectiveAs, many-injective_as}
use Rattle.asn1_codec.specs.Arrays.{trees_if, array_trees}

trees_if-whole : (test : Bool) (trees : Trees) → AreWhole (trees_if test trees) → test ≡ true
trees_if-whole true trees whole = refl
trees_if-whole false trees whole = absurd whole.0

trees_if-is : (test : Bool) (trees : Trees) → test ≡ true → trees_if test trees ≡ trees
trees_if-is test trees e = ap (λ b. trees_if b trees) e

module _ {A : Type 0} (count : ℕ) (tree : A → Tree) where
  -- they are as many as there have to be
  pub array-count : (items : List A) → AreWhole (array_trees count tree items) → length items ≡ count
  array-count items whole = eqb-true (length items) count (trees_if-whole (length items == count) (trees_of tree items) whole)

  -- as many elements have the trees of a list
  pub array-is : (items : List A) → AreWhole (array_trees count tree items) → array_trees count tree items ≡ trees_of tree items
  array-is items whole = trees_if-is (length items == count) (trees_of tree items) (trees_if-whole (length items == count) (trees_of tree items) whole)

  pub array_trees-injective_as : (seen : Seen A) → IsInjectiveAs (Alike seen) tree → AreInjectiveAs (Alike (seen_list seen)) (array_trees count tree)
  array_trees-injective_as seen one v w whole also e =
      let left = array-is v whole in
      let right = array-is w also in
      many-injective_as A tree seen one v w (subst AreWhole left whole) (subst AreWhole right also) (ap ders (sym left) ∙ e ∙ ap ders right)
