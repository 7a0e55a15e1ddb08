-- Trees of one identifier octet: they begin with it, and no two whole ones are spelled alike.
use Rattle.std.proofs.Common.{◌≡◌, ℕ, Bool, true, List}
use Rattle.asn1_der.specs.Tree.{Tree, Trees, wrapped, behind}
use Rattle.asn1_der.specs.Tagged.{sequence, leaf_as, tagged_tree}
use Rattle.asn1_der.specs.Firsts.{only, BeginsAmong}
use Rattle.asn1_der.proofs.Elements.{element-content}
use Rattle.asn1_der.proofs.Spelling.{IsInjective, IsInjectiveAs, may_begin-only, wrapped-begins, wrapped-injective_as, behind-whole, behind-begins, behind-same}
use Rattle.asn1_der.proofs.Rows.{AreInjective, AreInjectiveAs}
use Rattle.asn1_der.proofs.Leaf.{leaf-begins, leaf-injective_as}

-- what the trees of a type obey under each identifier octet
pub record TagLawsAs {T : Type 0} (Same : T → T → Type 0) (tree : ℕ → T → Tree) : Type 0 where
  pub begins : (octet : ℕ) (value : T) → BeginsAmong (only octet) (tree octet value)
  pub injective : (octet : ℕ) → IsInjectiveAs Same (tree octet)

abbrev pub TagLaws : {T : Type 0} → (ℕ → T → Tree) → Type 0
TagLaws {T} tree = TagLawsAs {T = T} (λ v w. v ≡ w) tree

pub sequence_laws_as : {T : Type 0} (Same : T → T → Type 0) (trees : T → Trees) → AreInjectiveAs Same trees → TagLawsAs Same (sequence trees)
sequence_laws_as Same trees injective = record {
  begins = λ octet fields. may_begin-only octet;
  injective = λ octet v w whole also e. injective v w whole also (element-content octet _ _ e);
}

pub sequence_laws : {T : Type 0} (trees : T → Trees) → AreInjective trees → TagLaws (sequence trees)
sequence_laws trees injective = sequence_laws_as (λ v w. v ≡ w) trees injective

pub leaf_laws_as : {T : Type 0} (Same : T → T → Type 0) (is_valid : T → Bool) (content : T → List ℕ)
    → ((v w : T) → is_valid v ≡ true → is_valid w ≡ true → content v ≡ content w → Same v w)
    → TagLawsAs Same (leaf_as is_valid content)
leaf_laws_as Same is_valid content one = record {
  begins = λ octet value. leaf-begins (is_valid value) octet (content value);
  injective = λ octet. leaf-injective_as Same is_valid octet content one;
}

pub leaf_laws : {T : Type 0} (is_valid : T → Bool) (content : T → List ℕ)
    → ((v w : T) → is_valid v ≡ true → is_valid w ≡ true → content v ≡ content w → v ≡ w)
    → TagLaws (leaf_as is_valid content)
leaf_laws is_valid content one = leaf_laws_as (λ v w. v ≡ w) is_valid content one

-- a value is distinguished by its row
pub tagged-injective_as : {R T : Type 0} (Row : R → R → Type 0) (Same : T → T → Type 0) (first : ℕ) (tree : ℕ → R → Tree) → TagLawsAs {T = R} Row tree → (row_of : T → R)
    → ((v w : T) → Row (row_of v) (row_of w) → Same v w) → IsInjectiveAs {T = T} Same (tagged_tree first tree row_of)
tagged-injective_as Row Same first tree laws row_of one v w whole also e = one v w (laws.injective first (row_of v) (row_of w) whole also e)

pub tagged-injective : {R T : Type 0} (first : ℕ) (tree : ℕ → R → Tree) → TagLaws tree → (row_of : T → R)
    → ((v w : T) → row_of v ≡ row_of w → v ≡ w) → IsInjective (tagged_tree first tree row_of)
tagged-injective {R} {T} first tree laws row_of one = tagged-injective_as {R = R} {T = T} (λ v w. v ≡ w) (λ v w. v ≡ w) first tree laws row_of one

-- a value that holds the spelling of another
pub wrapped_laws_as : {T : Type 0} (Same : T → T → Type 0) (tree : T → Tree) → IsInjectiveAs Same tree → TagLawsAs Same (λ octet value. wrapped octet (tree value))
wrapped_laws_as Same tree injective = record {
  begins = λ octet value. wrapped-begins octet (tree value);
  injective = λ octet. wrapped-injective_as Same octet tree injective;
}

pub wrapped_laws : {T : Type 0} (tree : T → Tree) → IsInjective tree → TagLaws (λ octet value. wrapped octet (tree value))
wrapped_laws tree injective = wrapped_laws_as (λ v w. v ≡ w) tree injective

-- values behind an octet
pub behind_laws_as : {T : Type 0} (Same : T → T → Type 0) (before : ℕ) (tree : ℕ → T → Tree) → TagLawsAs Same tree → TagLawsAs Same (λ octet value. behind before (tree octet value))
behind_laws_as Same before tree laws = record {
  begins = λ octet value. behind-begins before (only octet) (tree octet value) (laws.begins octet value);
  injective = λ octet v w whole also e.
      let one = behind-whole before (tree octet v) whole in
      let other = behind-whole before (tree octet w) also in
      laws.injective octet v w one other (behind-same before (tree octet v) (tree octet w) one other e);
}

pub behind_laws : {T : Type 0} (before : ℕ) (tree : ℕ → T → Tree) → TagLaws tree → TagLaws (λ octet value. behind before (tree octet value))
behind_laws before tree laws = behind_laws_as (λ v w. v ≡ w) before tree laws
