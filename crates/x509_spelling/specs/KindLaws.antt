-- Fields of a kind that an object identifier decides are distinguished by their bytes and that identifier.
use Rattle.std.proofs.Common.{◌≡◌, ℕ, ◌+◌, Bool, true, false, List, refl, sym, ap, ◌∙◌, subst, arith}
use Rattle.std.specs.Prelude.{◌&&◌, not, IsTrue}
use Rattle.std.proofs.lemmas.Bool.{and_parts}
use Rattle.asn1_der.specs.Tree.{Trees, ders, AreWhole}
use Rattle.asn1_der.specs.Firsts.{Firsts, either, only}
use Rattle.asn1_der.specs.Tagged.{sequence}
use Rattle.asn1_der.proofs.Rows.{may_begin-either_left, may_begin-either_right}
use Rattle.picky_asn1.specs.declared.wrapper.ObjectIdentifierAsn1.{ObjectIdentifierAsn1}
use Rattle.x509_spelling.specs.Spellings.{Joins, Holds}
use Rattle.x509_spelling.specs.Laws.{SpellingLaws, RowLaws, FieldLaws, Starts}
use Rattle.x509_spelling.specs.RowLaws.{sequence_laws}
use Rattle.x509_spelling.specs.declared.kinds.KindOf.{KindOf}
use Rattle.x509_spelling.specs.declared.kinds.LastKind.{LastKind}
use Rattle.x509_spelling.specs.declared.kinds.KindOf.TheVariants.{This, Other}
use Rattle.x509_spelling.specs.Kinds.{case_belongs, case_trees, CaseSpells}
use Rattle.asn1_der.specs.Octets.{sequence_octet}

-- as `RowLaws`, but that bytes have one value among those that belong to one identifier
pub record KindLaws {K : Type 0} (belongs : List ℕ → K → Bool) (firsts : Firsts) (trees : K → Trees) (spells : K → List ℕ → ℕ → Type 0) : Type 0 where
  pub strict : (v : K) → AreWhole (trees v) → spells v (ders (trees v)) 0
  pub only : (v : K) (b : List ℕ) → spells v b 0 → b ≡ ders (trees v)
  pub whole : (v : K) (b : List ℕ) (n : ℕ) → spells v b n → AreWhole (trees v)
  pub one : (arcs : List ℕ) (v w : K) (b : List ℕ) (m n : ℕ) → IsTrue (belongs arcs v) → IsTrue (belongs arcs w) → spells v b m → spells w b n → (v ≡ w) × (m ≡ n)
  pub starts : (v : K) (b : List ℕ) (n : ℕ) → spells v b n → Starts firsts b

no_count : (m k : ℕ) → 0 ≡ m + k → (m ≡ 0) × (k ≡ 0)
no_count m k e = (omega arith, omega arith)

both : (is other : Bool) → IsTrue is → IsTrue (not is && other) → ⊥
both true other is isnt = absurd (cc (isnt))
both false other is isnt = absurd (cc (is))

module _ {A B : Type 0} (is_told : List ℕ → Bool) (firsts : Firsts) (trees : A → Trees) (spells : A → List ℕ → ℕ → Type 0) (laws : RowLaws firsts trees spells)
    (belongs : List ℕ → B → Bool) (others : Firsts) (other_trees : B → Trees) (other_spells : B → List ℕ → ℕ → Type 0)
    (rest : KindLaws belongs others other_trees other_spells) where
  case-strict : (v : KindOf A B) → AreWhole (case_trees trees other_trees v) → CaseSpells spells other_spells v (ders (case_trees trees other_trees v)) 0
  case-strict (This v) whole = laws.strict v whole
  case-strict (Other v) whole = rest.strict v whole

  case-only : (v : KindOf A B) (b : List ℕ) → CaseSpells spells other_spells v b 0 → b ≡ ders (case_trees trees other_trees v)
  case-only (This v) b s = laws.only v b s
  case-only (Other v) b s = rest.only v b s

  case-whole : (v : KindOf A B) (b : List ℕ) (n : ℕ) → CaseSpells spells other_spells v b n → AreWhole (case_trees trees other_trees v)
  case-whole (This v) b n s = laws.whole v b n s
  case-whole (Other v) b n s = rest.whole v b n s

  case-one : (arcs : List ℕ) (v w : KindOf A B) (b : List ℕ) (m n : ℕ) → IsTrue (case_belongs is_told belongs arcs v) → IsTrue (case_belongs is_told belongs arcs w)
      → CaseSpells spells other_spells v b m → CaseSpells spells other_spells w b n → (v ≡ w) × (m ≡ n)
  case-one arcs (This v) (This w) b m n left right s r = let same = laws.one v w b m n s r in (ap This same.0, same.1)
  case-one arcs (Other v) (Other w) b m n left right s r =
      let l = and_parts (not (is_told arcs)) (belongs arcs v) left in
      let p = and_parts (not (is_told arcs)) (belongs arcs w) right in
      let same = rest.one arcs v w b m n l.1 p.1 s r in (ap Other same.0, same.1)
  case-one arcs (This v) (Other w) b m n left right s r = absurd (both (is_told arcs) (belongs arcs w) left right)
  case-one arcs (Other v) (This w) b m n left right s r = absurd (both (is_told arcs) (belongs arcs v) right left)

  case-starts : (v : KindOf A B) (b : List ℕ) (n : ℕ) → CaseSpells spells other_spells v b n → Starts (either firsts others) b
  case-starts (This v) b n s octet tail e = may_begin-either_left firsts others octet (laws.starts v b n s octet tail e)
  case-starts (Other v) b n s octet tail e = may_begin-either_right firsts others octet (rest.starts v b n s octet tail e)

  pub case_laws : KindLaws (case_belongs is_told belongs) (either firsts others) (case_trees trees other_trees) (CaseSpells spells other_spells)
  case_laws = record {
    strict = case-strict;
    only = case-only;
    whole = case-whole;
    one = case-one;
    starts = case-starts;
  }

-- a field in front of fields whose kind is decided
module _ {A K : Type 0} (before : Firsts → Firsts) (is_told : Firsts → Bool) (place : A → Trees → Trees) (leads : A → List ℕ → List ℕ → ℕ → Type 0)
    (field : FieldLaws before is_told place leads)
    (belongs : List ℕ → K → Bool) (others : Firsts) (trees : K → Trees) (spells : K → List ℕ → ℕ → Type 0) (laws : KindLaws belongs others trees spells) where
  joined-strict : IsTrue (is_told others) → (a : A) (k : K) → AreWhole (place a (trees k)) → Joins leads spells a k (ders (place a (trees k))) 0
  joined-strict told a k whole =
      let first = field.strict a (trees k) others told (λ also. laws.starts k (ders (trees k)) 0 (laws.strict k also)) whole in
      (ders (trees k), 0, 0, first.0, laws.strict k first.1, refl)

  joined-only : (a : A) (k : K) (b : List ℕ) → Joins leads spells a k b 0 → b ≡ ders (place a (trees k))
  joined-only a k b s =
      let zero = no_count s.1 s.2 s.5 in
      field.only a (trees k) b s.0 (subst (λ (c : ℕ). leads a b s.0 c) zero.0 s.3) (laws.only k s.0 (subst (λ (c : ℕ). spells k s.0 c) zero.1 s.4))

  joined-whole : (a : A) (k : K) (b : List ℕ) (n : ℕ) → Joins leads spells a k b n → AreWhole (place a (trees k))
  joined-whole a k b n s = field.whole a (trees k) b s.0 s.1 s.3 (laws.whole k s.0 s.2 s.4)

  joined-starts : (a : A) (k : K) (b : List ℕ) (n : ℕ) → Joins leads spells a k b n → Starts (before others) b
  joined-starts a k b n s = field.starts a b s.0 s.1 others s.3 (laws.starts k s.0 s.2 s.4)

  joined-one : (left_arcs right_arcs : A → List ℕ) (a x : A) (k l : K) (b : List ℕ) (m n : ℕ) → (a ≡ x → left_arcs a ≡ right_arcs x)
      → IsTrue (belongs (left_arcs a) k) → IsTrue (belongs (right_arcs x) l) → Joins leads spells a k b m → Joins leads spells x l b n → (a ≡ x) × (k ≡ l) × (m ≡ n)
  joined-one left_arcs right_arcs a x k l b m n arcs holds also s r =
      let first = field.one a x b s.0 r.0 s.1 r.1 s.3 r.3 in
      let rest = laws.one (right_arcs x) k l r.0 s.2 r.2 (subst (λ (c : List ℕ). IsTrue (belongs c k)) (arcs first.0) holds) also
      (subst (λ (c : List ℕ). spells k c s.2) first.1 s.4) r.4 in
      (first.0, rest.0, s.5 ∙ (λ i. first.2 i + rest.1 i) ∙ sym r.5)

  pub joined_laws : IsTrue (is_told others) → KindLaws (λ arcs (f : A × K). belongs arcs f.1) (before others) (λ (f : A × K). place f.0 (trees f.1)) (λ f. Joins leads spells f.0 f.1)
  joined_laws told = record {
    strict = λ f. joined-strict told f.0 f.1;
    only = λ f. joined-only f.0 f.1;
    whole = λ f. joined-whole f.0 f.1;
    one = λ arcs f g b m n holds also s r.
        let same = joined-one (λ _. arcs) (λ _. arcs) f.0 g.0 f.1 g.1 b m n (λ _. refl) holds also s r in ((λ i. (same.0 i, same.1 i)), same.2);
    starts = λ f. joined-starts f.0 f.1;
  }

-- a value that is distinguished by its identifier and the fields of the kind that it decides
module _ {K : Type 0} (before : Firsts → Firsts) (is_told : Firsts → Bool) (place : ObjectIdentifierAsn1 → Trees → Trees)
    (leads : ObjectIdentifierAsn1 → List ℕ → List ℕ → ℕ → Type 0) (field : FieldLaws before is_told place leads)
    (belongs : List ℕ → K → Bool) (others : Firsts) (trees : K → Trees) (spells : K → List ℕ → ℕ → Type 0) (laws : KindLaws belongs others trees spells) where
  pub identified_laws : {T : Type 0} → IsTrue (is_told others) → (row_of : T → ObjectIdentifierAsn1 × K) → ((v w : T) → row_of v ≡ row_of w → v ≡ w)
      → ((v : T) → IsTrue (belongs (row_of v).0.0 (row_of v).1))
      → SpellingLaws true (only sequence_octet) (λ v. sequence (λ (f : ObjectIdentifierAsn1 × K). place f.0 (trees f.1)) sequence_octet (row_of v)) (λ v. Holds sequence_octet (λ (f : ObjectIdentifierAsn1 × K). Joins leads spells f.0 f.1) (row_of v))
  identified_laws {T} told row_of same holds =
      sequence_laws sequence_octet refl (before others) (λ (v : T). place (row_of v).0 (trees (row_of v).1)) (λ v. Joins leads spells (row_of v).0 (row_of v).1) (record {
        strict = λ v. joined-strict before is_told place leads field belongs others trees spells laws told (row_of v).0 (row_of v).1;
        only = λ v. joined-only before is_told place leads field belongs others trees spells laws (row_of v).0 (row_of v).1;
        whole = λ v. joined-whole before is_told place leads field belongs others trees spells laws (row_of v).0 (row_of v).1;
        one = λ v w b m n s r.
            let parts = joined-one before is_told place leads field belongs others trees spells laws (λ o. o.0) (λ o. o.0) (row_of v).0 (row_of w).0 (row_of v).1 (row_of w).1 b m n
            (λ e. ap (λ (o : ObjectIdentifierAsn1). o.0) e) (holds v) (holds w) s r in
            (same v w (λ i. (parts.0 i, parts.1 i)), parts.2);
        starts = λ v. joined-starts before is_told place leads field belongs others trees spells laws (row_of v).0 (row_of v).1;
      })

-- the last kind
pub last_laws : {K : Type 0} (is_told : List ℕ → Bool) (firsts : Firsts) (trees : K → Trees) (spells : K → List ℕ → ℕ → Type 0)
    → RowLaws firsts trees spells → KindLaws (λ arcs (v : LastKind K). is_told arcs) firsts (λ v. trees v.0) (λ v. spells v.0)
last_laws is_told firsts trees spells laws = record {
  strict = λ v. laws.strict v.0;
  only = λ v. laws.only v.0;
  whole = λ v. laws.whole v.0;
  one = λ arcs v w b m n _ _ s r. let same = laws.one v.0 w.0 b m n s r in ((λ i. record { 0 = same.0 i }), same.1);
  starts = λ v. laws.starts v.0;
}
