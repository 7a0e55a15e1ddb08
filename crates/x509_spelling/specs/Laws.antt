-- What spellings obey: the one with no deviation is the DER spelling, and bytes have one value and one count.
use Rattle.std.proofs.Common.{◌≡◌, ℕ, Bool, true, false, List, [], ◌∷◌, refl, sym, ◌∙◌, subst, inl, inr}
use Rattle.std.specs.Prelude.{◌==◌, IsTrue}
use Rattle.std.specs.List.{list_all, list_any}
use Rattle.std.proofs.lemmas.Bool.{and_parts, or_cases, eqb-true}
use Rattle.asn1_der.specs.Tree.{Tree, Trees, primitive, constructed, absent, der, ders, IsWhole, AreWhole}
use Rattle.asn1_der.specs.Length.{element}
use Rattle.asn1_der.specs.Firsts.{Firsts, any_octet, one_of, may_begin, BeginsAmong}
use Rattle.asn1_der.proofs.Elements.{element-split}
use Rattle.asn1_der.proofs.Spelling.{IsInjective}
use Rattle.asn1_der.proofs.Rows.{AllBeginAmong}
use Rattle.picky_asn1_der.specs.Raw.{has_low_number}
use Rattle.x509_spelling.specs.Spellings.{IsExact, has_low_tag}

-- the bytes are one element, with one of these identifier octets
abbrev pub IsElementOf : Firsts → List ℕ → Type 0
IsElementOf firsts bytes =
    (first : ℕ) × (content : List ℕ) × IsTrue (may_begin firsts first) × (bytes ≡ element first content)

pub record SpellingLaws {T : Type 0} (is_low : Bool) (firsts : Firsts) (tree : T → Tree) (spells : T → List ℕ → ℕ → Type 0) : Type 0 where
  -- the DER spelling is one, with no deviation
  pub strict : (v : T) → IsWhole (tree v) → spells v (der (tree v)) 0
  -- no other spelling is without a deviation
  pub only : (v : T) (b : List ℕ) → spells v b 0 → b ≡ der (tree v)
  -- what is spelled can be written
  pub whole : (v : T) (b : List ℕ) (n : ℕ) → spells v b n → IsWhole (tree v)
  -- bytes have one value and one count
  pub one : (v w : T) (b : List ℕ) (m n : ℕ) → spells v b m → spells w b n → (v ≡ w) × (m ≡ n)
  pub element_of : (v : T) (b : List ℕ) (n : ℕ) → spells v b n → IsElementOf firsts b
  pub low : IsTrue is_low → (v : T) (b : List ℕ) (n : ℕ) → spells v b n → has_low_tag b ≡ true

-- the bytes are empty, or begin with one of these octets
abbrev pub Starts : Firsts → List ℕ → Type 0
Starts firsts bytes = (octet : ℕ) (rest : List ℕ) → bytes ≡ octet ∷ rest → IsTrue (may_begin firsts octet)

-- the laws of the spellings of the fields of a SEQUENCE
pub record RowLaws {T : Type 0} (firsts : Firsts) (trees : T → Trees) (spells : T → List ℕ → ℕ → Type 0) : Type 0 where
  pub strict : (v : T) → AreWhole (trees v) → spells v (ders (trees v)) 0
  pub only : (v : T) (b : List ℕ) → spells v b 0 → b ≡ ders (trees v)
  pub whole : (v : T) (b : List ℕ) (n : ℕ) → spells v b n → AreWhole (trees v)
  pub one : (v w : T) (b : List ℕ) (m n : ℕ) → spells v b m → spells w b n → (v ≡ w) × (m ≡ n)
  pub starts : (v : T) (b : List ℕ) (n : ℕ) → spells v b n → Starts firsts b

-- the laws of the spellings of a field in front of others, which are written as `ts` and begin with one of `others`
pub record FieldLaws {T : Type 0} (before : Firsts → Firsts) (is_told : Firsts → Bool) (put : T → Trees → Trees)
    (leads : T → List ℕ → List ℕ → ℕ → Type 0) : Type 0 where
  pub strict : (v : T) (ts : Trees) (others : Firsts) → IsTrue (is_told others) → (AreWhole ts → Starts others (ders ts))
      → AreWhole (put v ts) → leads v (ders (put v ts)) (ders ts) 0 × AreWhole ts
  pub only : (v : T) (ts : Trees) (b rest : List ℕ) → leads v b rest 0 → rest ≡ ders ts → b ≡ ders (put v ts)
  pub whole : (v : T) (ts : Trees) (b rest : List ℕ) (n : ℕ) → leads v b rest n → AreWhole ts → AreWhole (put v ts)
  pub one : (v w : T) (b x y : List ℕ) (m n : ℕ) → leads v b x m → leads w b y n → (v ≡ w) × (x ≡ y) × (m ≡ n)
  pub starts : (v : T) (b rest : List ℕ) (n : ℕ) (others : Firsts) → leads v b rest n → Starts others rest → Starts (before others) b

-- each of these tags is in one octet
abbrev pub are_low : Firsts → Bool
are_low any_octet = false
are_low (one_of octets) = list_all has_low_number octets

low_among : (octets : List ℕ) (first : ℕ) → list_all has_low_number octets ≡ true → list_any (λ octet. octet == first) octets ≡ true → has_low_number first ≡ true
low_among [] first all any = cc
low_among (octet ∷ octets) first all any =
    let parts = and_parts (has_low_number octet) (list_all has_low_number octets) all in
    elim (or_cases (octet == first) (list_any (λ o. o == first) octets) any) [
      | inl same ↦ subst (λ (o : ℕ). has_low_number o ≡ true) (eqb-true octet first same) parts.0
      | inr later ↦ low_among octets first parts.1 later
    ]

low_of : (firsts : Firsts) (first : ℕ) → are_low firsts ≡ true → IsTrue (may_begin firsts first) → has_low_number first ≡ true
low_of any_octet first low begins = absurd (cc (low))
low_of (one_of octets) first low begins = low_among octets first low begins

tree_element : (firsts : Firsts) (t : Tree) → IsWhole t → BeginsAmong firsts t → IsElementOf firsts (der t)
tree_element firsts (primitive first content) whole begins = (first, content, begins, refl)
tree_element firsts (constructed first parts) whole begins = (first, ders parts, begins, refl)
tree_element firsts absent whole begins = absurd whole

-- an element's tag is in one octet, where each of its octets says so
pub low_element : (firsts : Firsts) → are_low firsts ≡ true → (b : List ℕ) → IsElementOf firsts b → has_low_tag b ≡ true
low_element firsts low b e =
    subst (λ (l : List ℕ). has_low_tag l ≡ true) (sym (e.3 ∙ element-split e.0 e.1)) (low_of firsts e.0 low e.2)

-- a type whose values are spelled in one way
pub exact_laws : {T : Type 0} (firsts : Firsts) (tree : T → Tree) → AllBeginAmong firsts tree → IsInjective tree → SpellingLaws (are_low firsts) firsts tree (IsExact tree)
exact_laws firsts tree begins injective = record {
  strict = λ v whole. ((whole, refl), refl);
  only = λ v b s. s.0.1;
  whole = λ v b n s. s.0.0;
  one = λ v w b m n s r. (injective v w s.0.0 r.0.0 (sym s.0.1 ∙ r.0.1), s.1 ∙ sym r.1);
  element_of = λ v b n s. subst (IsElementOf firsts) (sym s.0.1) (tree_element firsts (tree v) s.0.0 (begins v));
  low = λ low v b n s. low_element firsts low b (subst (IsElementOf firsts) (sym s.0.1) (tree_element firsts (tree v) s.0.0 (begins v)));
}

-- a value that is distinguished by what it holds
pub held_laws : {R T : Type 0} (is_low : Bool) (firsts : Firsts) (tree : R → Tree) (spells : R → List ℕ → ℕ → Type 0) → SpellingLaws is_low firsts tree spells
    → (row_of : T → R) → ((v w : T) → row_of v ≡ row_of w → v ≡ w) → SpellingLaws is_low firsts (λ v. tree (row_of v)) (λ v. spells (row_of v))
held_laws is_low firsts tree spells laws row_of told = record {
  strict = λ v. laws.strict (row_of v);
  only = λ v. laws.only (row_of v);
  whole = λ v. laws.whole (row_of v);
  one = λ v w b m n s r. let same = laws.one (row_of v) (row_of w) b m n s r in (told v w same.0, same.1);
  element_of = λ v. laws.element_of (row_of v);
  low = λ low v. laws.low low (row_of v);
}
