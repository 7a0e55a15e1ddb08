-- Lists of one type are distinguished by their spellings, where each tag of an element is in one octet.
use Rattle.std.proofs.Common.{◌≡◌, ℕ, ◌+◌, Bool, true, false, not, List, refl, arith}
use Rattle.std.specs.Prelude.{◌%◌, ◌==◌, IsTrue}
use Rattle.std.proofs.lemmas.Bool.{eqb-true}
use Rattle.asn1_der.specs.Octets.{sequence_octet}
use Rattle.asn1_der.specs.Tree.{Tree, absent, trees_of}
use Rattle.asn1_der.specs.Tagged.{sequence}
use Rattle.asn1_der.specs.Firsts.{Firsts, only}
use Rattle.picky_asn1_der.specs.Raw.{has_low_number}
use Rattle.x509_spelling.specs.Spellings.{AreMany, Holds}
use Rattle.x509_spelling.specs.Laws.{SpellingLaws}
use Rattle.x509_spelling.specs.RowLaws.{sequence_laws, many_laws}

-- the tree and the spellings of a value whose tag is in one octet; of another type no value has one
abbrev pub low_tree : {T : Type 0} → Bool → (T → Tree) → T → Tree
low_tree true tree = tree
low_tree false tree = λ _. absent

abbrev pub low_spells : {T : Type 0} → Bool → (T → List ℕ → ℕ → Type 0) → T → List ℕ → ℕ → Type 0
low_spells true spells = spells
low_spells false spells = λ _ _ _. ⊥

pub low_tree-is : {T : Type 0} (is_low : Bool) → IsTrue is_low → (tree : T → Tree) → tree ≡ low_tree is_low tree
low_tree-is true low tree = refl
low_tree-is false low tree = absurd (cc (low))

-- what is known of a type's spellings
pub of_low : {T : Type 0} (is_low : Bool) → IsTrue is_low → (spells : T → List ℕ → ℕ → Type 0) (Known : (T → List ℕ → ℕ → Type 0) → Type 0)
    → Known spells → Known (low_spells is_low spells)
of_low true low spells Known known = known
of_low false low spells Known known = absurd (cc (low))

low_laws : {T : Type 0} (is_low : Bool) (firsts : Firsts) (tree : T → Tree) (spells : T → List ℕ → ℕ → Type 0)
    → SpellingLaws is_low firsts tree spells → SpellingLaws true firsts (low_tree is_low tree) (low_spells is_low spells)
low_laws true firsts tree spells laws = laws
low_laws false firsts tree spells laws = record {
  strict = λ v whole. whole;
  only = λ v b s. absurd s;
  whole = λ v b n s. s;
  one = λ v w b m n s r. absurd s;
  element_of = λ v b n s. absurd s;
  low = λ low v b n s. absurd s;
}

pub list_laws : {T : Type 0} (first : ℕ) → has_low_number first ≡ true → (is_low : Bool) (firsts : Firsts) (tree : T → Tree) (spells : T → List ℕ → ℕ → Type 0)
    → SpellingLaws is_low firsts tree spells → SpellingLaws true (only first) (sequence (trees_of (low_tree is_low tree)) first) (Holds first (AreMany (low_spells is_low spells)))
list_laws first low is_low firsts tree spells laws =
    sequence_laws first low firsts (trees_of (low_tree is_low tree)) (AreMany (low_spells is_low spells))
    (many_laws true firsts (low_tree is_low tree) (low_spells is_low spells) (low_laws is_low firsts tree spells laws) refl)

untrue : (b : Bool) → (b ≡ true → ⊥) → not b ≡ true
untrue true never = absurd (never refl)
untrue false never = refl

-- the identifier octet of SEQUENCE where the number is even, else that of SET
abbrev pub list_octet : ℕ → ℕ
list_octet n = sequence_octet + n % 2

not_last : (n : ℕ) → list_octet n % 32 ≡ 31 → ⊥
not_last n e = omega (arith, e)

-- their tags are in one octet
pub list_tag : (n : ℕ) → has_low_number (list_octet n) ≡ true
list_tag n = untrue (list_octet n % 32 == 31) (λ e. not_last n (eqb-true (list_octet n % 32) 31 e))
