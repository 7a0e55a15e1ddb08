-- How an array is read as a list.
use Rattle.std.proofs.Common.{◌≡◌, ℕ, List, ◌++◌, length, sym, ap, subst, ◌∙◌}
use Rattle.asn1_der.specs.Length.{element}
use Rattle.asn1_der.specs.Tagged.{sequence}
use Rattle.asn1_der.specs.Tree.{Tree, Writes, ders, AreWhole, trees_of}
use Rattle.asn1_der.proofs.Elements.{element-one}
use Rattle.asn1_der.specs.Seen.{Seen, Alike}
use Rattle.asn1_der.proofs.Alike.{alike-length}
use Rattle.asn1_der.proofs.Spelling.{IsInjectiveAs}
use Rattle.asn1_der.proofs.Rows.{many-injective_as}
use Rattle.asn1_codec.specs.Arrays.{array_trees}
use Rattle.asn1_codec.specs.ArrayLaws.{array-count, array-is}
use Rattle.asn1_der.specs.declared.error.Asn1DerError.{Asn1DerError}
use Rattle.asn1_codec.specs.Reading.{Reading, TookValue, Refused, IsSpelling, IsOwn, stopped}
use Rattle.asn1_codec.proofs.Chain.{refused-taken}

module _ {A : Type 0} (count octet : ℕ) (tree : A → Tree) where
  -- what spells an array spells the list of its elements
  array-spelled : (bytes : List ℕ) (items : List A) → Writes (sequence (array_trees count tree) octet) items bytes → Writes (sequence (trees_of tree) octet) items bytes
  array-spelled bytes items p =
      let same = array-is count tree items p.0 in
      (subst AreWhole same p.0, p.1 ∙ ap (λ trees. element octet (ders trees)) same)

  -- a list of another count was taken, and the call refused
  pub refused-count : (seen : Seen A) → IsInjectiveAs (Alike seen) tree → (items : List A) (old mid new : Reading) (fault kind : Asn1DerError)
      → TookValue (sequence (trees_of tree) octet) items old mid → (length items ≡ count → ⊥)
      → new ≡ stopped mid → fault ≡ kind → IsOwn kind → Refused (IsSpelling (sequence (array_trees count tree) octet)) old new fault
  refused-count seen one items old mid new fault kind took other is same own =
      refused-taken (IsSpelling (sequence (array_trees count tree) octet)) (element octet (ders (trees_of tree items))) old mid new fault kind took.1 is same own
      (λ bytes rest more p e within.
      let spelled = array-spelled bytes p.0 p.1 in
      let content = (element-one octet octet (ders (trees_of tree p.0)) (ders (trees_of tree items)) rest more (ap (λ b. b ++ rest) (sym spelled.1) ∙ e)).1 in
      let equal = many-injective_as A tree seen one p.0 items spelled.0 took.0 content in
      other (sym (alike-length seen p.0 items equal) ∙ array-count count tree p.0 p.1.0))
