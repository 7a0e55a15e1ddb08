-- The fields of a SEQUENCE and the elements of a list are distinguished by their spellings.
use Rattle.std.proofs.Common.{◌≡◌, ℕ, ◌+◌, Bool, true, List, [], ◌∷◌, ◌++◌, refl, sym, ap, ◌∙◌, subst, arith}
use Rattle.std.specs.Prelude.{IsTrue}
use Rattle.asn1_der.specs.Tree.{Tree, Trees, none, ders, AreWhole, trees_of}
use Rattle.asn1_der.specs.Length.{element}
use Rattle.asn1_der.specs.Tagged.{sequence}
use Rattle.asn1_der.specs.Firsts.{Firsts, one_of, only}
use Rattle.asn1_der.proofs.Elements.{element-split, element-content}
use Rattle.asn1_der.proofs.Spelling.{may_begin-only}
use Rattle.picky_asn1_der.specs.Raw.{has_low_number}
use Rattle.x509_spelling.specs.Spellings.{has_low_tag, Leads, IsEnd, Joins, AreMany, Holds, begins}
use Rattle.x509_spelling.specs.Laws.{SpellingLaws, RowLaws, FieldLaws, Starts, held_laws}
use Rattle.x509_spelling.specs.FieldLaws.{leads-one, leads-begins, leads-strict, required_laws}

no_count : (m k : ℕ) → 0 ≡ m + k → (m ≡ 0) × (k ≡ 0)
no_count m k e = (omega arith, omega arith)

no_start : (octet : ℕ) (rest : List ℕ) → [] ≡ octet ∷ rest → ⊥
no_start octet rest e = cc

pub end_laws : {T : Type 0} → ((v w : T) → v ≡ w) → RowLaws (one_of []) (λ (v : T). none) (λ (v : T) b n. IsEnd b n)
end_laws same = record {
  strict = λ v whole. (refl, refl);
  only = λ v b s. s.0;
  whole = λ v b n s. tt;
  one = λ v w b m n s r. (same v w, s.1 ∙ sym r.1);
  starts = λ v b n s octet rest e. absurd (no_start octet rest (sym s.0 ∙ e));
}

module _ {A B : Type 0} (before : Firsts → Firsts) (is_told : Firsts → Bool) (place : A → Trees → Trees) (leads : A → List ℕ → List ℕ → ℕ → Type 0)
    (field : FieldLaws before is_told place leads)
    (others : Firsts) (trees : B → Trees) (spells : B → List ℕ → ℕ → Type 0) (rows : RowLaws others trees spells) where
  joins-strict : IsTrue (is_told others) → (a : A) (c : B) → AreWhole (place a (trees c)) → Joins leads spells a c (ders (place a (trees c))) 0
  joins-strict told a c whole =
      let first = field.strict a (trees c) others told (λ also. rows.starts c (ders (trees c)) 0 (rows.strict c also)) whole in
      (ders (trees c), 0, 0, first.0, rows.strict c first.1, refl)

  joins-only : (a : A) (c : B) (b : List ℕ) → Joins leads spells a c b 0 → b ≡ ders (place a (trees c))
  joins-only a c b s =
      let zero = no_count s.1 s.2 s.5 in
      field.only a (trees c) b s.0 (subst (λ (k : ℕ). leads a b s.0 k) zero.0 s.3) (rows.only c s.0 (subst (λ (k : ℕ). spells c s.0 k) zero.1 s.4))

  joins-one : (a x : A) (c y : B) (b : List ℕ) (m n : ℕ) → Joins leads spells a c b m → Joins leads spells x y b n → (a ≡ x) × (c ≡ y) × (m ≡ n)
  joins-one a x c y b m n s r =
      let first = field.one a x b s.0 r.0 s.1 r.1 s.3 r.3 in
      let rest = rows.one c y r.0 s.2 r.2 (subst (λ (l : List ℕ). spells c l s.2) first.1 s.4) r.4 in
      (first.0, rest.0, s.5 ∙ (λ i. first.2 i + rest.1 i) ∙ sym r.5)

  pub pair_laws : IsTrue (is_told others) → RowLaws (before others) (λ (f : A × B). place f.0 (trees f.1)) (λ f. Joins leads spells f.0 f.1)
  pair_laws told = record {
    strict = λ f. joins-strict told f.0 f.1;
    only = λ f. joins-only f.0 f.1;
    whole = λ f b n s. field.whole f.0 (trees f.1) b s.0 s.1 s.3 (rows.whole f.1 s.0 s.2 s.4);
    one = λ f g b m n s r. let same = joins-one f.0 g.0 f.1 g.1 b m n s r in (λ i. (same.0 i, same.1 i), same.2);
    starts = λ f b n s. field.starts f.0 b s.0 s.1 others s.3 (rows.starts f.1 s.0 s.2 s.4);
  }

-- one element that holds the fields
pub sequence_laws : {T : Type 0} (first : ℕ) → has_low_number first ≡ true → (firsts : Firsts) (trees : T → Trees) (spells : T → List ℕ → ℕ → Type 0)
    → RowLaws firsts trees spells → SpellingLaws true (only first) (sequence trees first) (Holds first spells)
sequence_laws first low firsts trees spells rows = record {
  strict = λ v whole. (ders (trees v), rows.strict v whole, refl);
  only = λ v b s. s.2 ∙ ap (element first) (rows.only v s.0 s.1);
  whole = λ v b n s. rows.whole v s.0 n s.1;
  one = λ v w b m n s r.
      let same = element-content first s.0 r.0 (sym s.2 ∙ r.2) in
      rows.one v w r.0 m n (subst (λ (l : List ℕ). spells v l m) same s.1) r.1;
  element_of = λ v b n s. (first, s.0, may_begin-only first, s.2);
  low = λ _ v b n s. subst (λ (l : List ℕ). has_low_tag l ≡ true) (sym (s.2 ∙ element-split first s.0)) low;
}

-- a struct that is distinguished by its row, which the element holds
pub struct_laws : {R T : Type 0} (first : ℕ) → has_low_number first ≡ true → (firsts : Firsts) (trees : R → Trees) (spells : R → List ℕ → ℕ → Type 0)
    → RowLaws firsts trees spells → (row_of : T → R) → ((v w : T) → row_of v ≡ row_of w → v ≡ w)
    → SpellingLaws true (only first) (λ v. sequence trees first (row_of v)) (λ v. Holds first spells (row_of v))
struct_laws first low firsts trees spells rows row_of told =
    held_laws true (only first) (sequence trees first) (Holds first spells) (sequence_laws first low firsts trees spells rows) row_of told

module _ {T : Type 0} (is_low : Bool) (firsts : Firsts) (tree : T → Tree) (spells : T → List ℕ → ℕ → Type 0) (laws : SpellingLaws is_low firsts tree spells) where
  many-strict : IsTrue is_low → (vs : List T) → AreWhole (trees_of tree vs) → AreMany spells vs (ders (trees_of tree vs)) 0
  many-strict low [] whole = (refl, refl)
  many-strict low (v ∷ vs) whole =
      (ders (trees_of tree vs), 0, 0, leads-strict is_low firsts tree spells laws low v (ders (trees_of tree vs)) whole.0, many-strict low vs whole.1, refl)

  many-only : (vs : List T) (b : List ℕ) → AreMany spells vs b 0 → b ≡ ders (trees_of tree vs)
  many-only [] b s = s.0
  many-only (v ∷ vs) b s =
      let zero = no_count s.1 s.2 s.5 in
      let front = laws.only v s.3.0 (subst (λ (k : ℕ). spells v s.3.0 k) zero.0 s.3.1) in
      let rest = many-only vs s.0 (subst (λ (k : ℕ). AreMany spells vs s.0 k) zero.1 s.4) in
      s.3.3 ∙ (λ i. front i ++ rest i)

  many-whole : (vs : List T) (b : List ℕ) (n : ℕ) → AreMany spells vs b n → AreWhole (trees_of tree vs)
  many-whole [] b n s = tt
  many-whole (v ∷ vs) b n s = (laws.whole v s.3.0 s.1 s.3.1, many-whole vs s.0 s.2 s.4)

  empty_leads : (v : T) (b rest : List ℕ) (n : ℕ) → b ≡ [] → Leads spells v b rest n → ⊥
  empty_leads v b rest n e s =
      let same : begins firsts [] ≡ true = subst (λ (l : List ℕ). begins firsts l ≡ true) e (leads-begins is_low firsts tree spells laws v b rest n s) in cc (same)

  pub many-one : (vs ws : List T) (b : List ℕ) (m n : ℕ) → AreMany spells vs b m → AreMany spells ws b n → (vs ≡ ws) × (m ≡ n)
  many-one [] [] b m n s r = (refl, s.1 ∙ sym r.1)
  many-one [] (w ∷ ws) b m n s r = absurd (empty_leads w b r.0 r.1 s.0 r.3)
  many-one (v ∷ vs) [] b m n s r = absurd (empty_leads v b s.0 s.1 r.0 s.3)
  many-one (v ∷ vs) (w ∷ ws) b m n s r =
      let first = leads-one is_low firsts tree spells laws v w b s.0 r.0 s.1 r.1 s.3 r.3 in
      let rest = many-one vs ws r.0 s.2 r.2 (subst (λ (l : List ℕ). AreMany spells vs l s.2) first.1 s.4) r.4 in
      ((λ i. first.0 i ∷ rest.0 i), s.5 ∙ (λ i. first.2 i + rest.1 i) ∙ sym r.5)

  many-starts : (vs : List T) (b : List ℕ) (n : ℕ) → AreMany spells vs b n → Starts firsts b
  many-starts [] b n s octet rest e = absurd (no_start octet rest (sym s.0 ∙ e))
  many-starts (v ∷ vs) b n s octet rest e =
      (required_laws is_low firsts tree spells laws).starts v b s.0 s.1 firsts s.3 (many-starts vs s.0 s.2 s.4) octet rest e

  pub many_laws : IsTrue is_low → RowLaws firsts (trees_of tree) (AreMany spells)
  many_laws low = record {
    strict = many-strict low;
    only = many-only;
    whole = many-whole;
    one = many-one;
    starts = many-starts;
  }
