-- Fields of which a value in front of them decides the kind are distinguished by their bytes.
use Rattle.std.proofs.Common.{◌≡◌, ℕ, Bool, true, List, refl, ap, subst}
use Rattle.std.proofs.Props.{props}
use Rattle.std.specs.Prelude.{IsTrue}
use Rattle.asn1_der.specs.Tree.{Trees}
use Rattle.asn1_der.specs.Firsts.{Firsts, only}
use Rattle.asn1_der.specs.Tagged.{sequence}
use Rattle.x509_spelling.specs.Spellings.{Joins, Holds}
use Rattle.x509_spelling.specs.Laws.{RowLaws, FieldLaws, SpellingLaws}
use Rattle.x509_spelling.specs.RowLaws.{sequence_laws}
use Rattle.x509_spelling.specs.KindLaws.{KindLaws, joined_laws}
use Rattle.asn1_der.specs.Octets.{sequence_octet}

-- a truth has one proof
pub one_truth : (b : Bool) (p q : IsTrue b) → p ≡ q
one_truth b = hlevel props

module _ {A K : Type 0} (before : Firsts → Firsts) (is_told : Firsts → Bool) (place : A → Trees → Trees) (leads : A → List ℕ → List ℕ → ℕ → Type 0)
    (field : FieldLaws before is_told place leads)
    (belongs : List ℕ → K → Bool) (others : Firsts) (trees : K → Trees) (spells : K → List ℕ → ℕ → Type 0) (laws : KindLaws belongs others trees spells) where
  pub chosen_laws : {T : Type 0} → IsTrue (is_told others) → (arcs_of : A → List ℕ) (chooser_of : T → A) (fields_of : T → K)
      → ((v w : T) → chooser_of v ≡ chooser_of w → fields_of v ≡ fields_of w → v ≡ w)
      → ((v : T) → IsTrue (belongs (arcs_of (chooser_of v)) (fields_of v)))
      → RowLaws (before others) (λ v. place (chooser_of v) (trees (fields_of v))) (λ v. Joins leads spells (chooser_of v) (fields_of v))
  chosen_laws {T} told arcs_of chooser_of fields_of same holds =
      let joined = joined_laws before is_told place leads field belongs others trees spells laws told in
      record {
        strict = λ v. joined.strict (chooser_of v, fields_of v);
        only = λ v. joined.only (chooser_of v, fields_of v);
        whole = λ v. joined.whole (chooser_of v, fields_of v);
        one = λ v w b m n s r.
            let first = field.one (chooser_of v) (chooser_of w) b s.0 r.0 s.1 r.1 s.3 r.3 in
            let both = joined.one (arcs_of (chooser_of w)) (chooser_of v, fields_of v) (chooser_of w, fields_of w) b m n
            (subst (λ (a : A). IsTrue (belongs (arcs_of a) (fields_of v))) first.0 (holds v)) (holds w) s r in
            (same v w (ap (λ (f : A × K). f.0) both.0) (ap (λ (f : A × K). f.1) both.0), both.1);
        starts = λ v. joined.starts (chooser_of v, fields_of v);
      }

  -- a SEQUENCE of both
  pub chosen_info_laws : {T : Type 0} → IsTrue (is_told others) → (arcs_of : A → List ℕ) (row_of : T → A × K) → ((v w : T) → row_of v ≡ row_of w → v ≡ w)
      → ((v : T) → IsTrue (belongs (arcs_of (row_of v).0) (row_of v).1))
      → SpellingLaws true (only sequence_octet) (λ v. sequence (λ (f : A × K). place f.0 (trees f.1)) sequence_octet (row_of v)) (λ v. Holds sequence_octet (λ (f : A × K). Joins leads spells f.0 f.1) (row_of v))
  chosen_info_laws {T} told arcs_of row_of same holds =
      sequence_laws sequence_octet refl (before others) (λ (v : T). place (row_of v).0 (trees (row_of v).1)) (λ v. Joins leads spells (row_of v).0 (row_of v).1)
      (chosen_laws told arcs_of (λ v. (row_of v).0) (λ v. (row_of v).1) (λ v w choosers fields. same v w (λ i. (choosers i, fields i))) holds)
