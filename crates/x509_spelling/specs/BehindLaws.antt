-- The laws of a row of a field, a value, and fields whose kind that value decides.
use Rattle.std.proofs.Common.{◌≡◌, ℕ, Bool, true, List, refl, ap}
use Rattle.std.specs.Prelude.{IsTrue}
use mathlib.Core.HLevel.{is_prop→PathP}
use Rattle.asn1_der.specs.Tree.{Tree, Trees, more}
use Rattle.asn1_der.specs.Firsts.{Firsts, only}
use Rattle.asn1_der.specs.Tagged.{sequence}
use Rattle.x509_spelling.specs.Spellings.{Leads, Joins, Holds}
use Rattle.x509_spelling.specs.Laws.{SpellingLaws, FieldLaws}
use Rattle.x509_spelling.specs.FieldLaws.{required_laws}
use Rattle.x509_spelling.specs.RowLaws.{pair_laws, struct_laws}
use Rattle.x509_spelling.specs.KindLaws.{KindLaws}
use Rattle.x509_spelling.specs.ChosenLaws.{chosen_laws, one_truth}
use Rattle.asn1_der.specs.Octets.{sequence_octet}

-- a value and fields of its kind
record Fitted {A K : Type 0} (belongs : A → K → Bool) : Type 0 where
  chooser : A
  fields : K
  fits : IsTrue (belongs chooser fields)

same_fitted : {A K : Type 0} (belongs : A → K → Bool) (v w : Fitted belongs) → v.chooser ≡ w.chooser → v.fields ≡ w.fields → v ≡ w
same_fitted belongs v w choosers fields =
    λ i. record {
      chooser = choosers i;
      fields = fields i;
      fits = is_prop→PathP (λ j. IsTrue (belongs (choosers j) (fields j))) (λ j. one_truth (belongs (choosers j) (fields j))) v.fits w.fits i;
    }

module _ {A K : Type 0} (before : Firsts → Firsts) (is_told : Firsts → Bool) (place : A → Trees → Trees) (leads : A → List ℕ → List ℕ → ℕ → Type 0)
    (field : FieldLaws before is_told place leads)
    (belongs : List ℕ → K → Bool) (others : Firsts) (trees : K → Trees) (spells : K → List ℕ → ℕ → Type 0) (laws : KindLaws belongs others trees spells)
    {H : Type 0} (is_low : Bool) (firsts : Firsts) (tree : H → Tree) (front : H → List ℕ → ℕ → Type 0) (front_laws : SpellingLaws is_low firsts tree front) where
  pub behind_laws : {T : Type 0} → IsTrue (is_told others) → IsTrue is_low → (arcs_of : A → List ℕ) (row_of : T → H × (A × K)) → ((v w : T) → row_of v ≡ row_of w → v ≡ w)
      → ((v : T) → IsTrue (belongs (arcs_of (row_of v).1.0) (row_of v).1.1))
      → SpellingLaws true (only sequence_octet) (λ v. sequence (λ (f : H × (A × K)). more (tree f.0) (place f.1.0 (trees f.1.1))) sequence_octet (row_of v))
      (λ v. Holds sequence_octet (λ (f : H × (A × K)). Joins (Leads front) (λ (g : A × K). Joins leads spells g.0 g.1) f.0 f.1) (row_of v))
  behind_laws {T} told low arcs_of row_of same holds =
      let fit : A → K → Bool = λ a k. belongs (arcs_of a) k in
      struct_laws sequence_octet refl firsts (λ (r : H × Fitted fit). more (tree r.0) (place r.1.chooser (trees r.1.fields)))
      (λ r. Joins (Leads front) (λ (x : Fitted fit). Joins leads spells x.chooser x.fields) r.0 r.1)
      (pair_laws (λ _. firsts) (λ _. is_low) (λ v ts. more (tree v) ts) (Leads front) (required_laws is_low firsts tree front front_laws)
      (before others) (λ (x : Fitted fit). place x.chooser (trees x.fields)) (λ x. Joins leads spells x.chooser x.fields)
      (chosen_laws before is_told place leads field belongs others trees spells laws told arcs_of (λ (x : Fitted fit). x.chooser) (λ x. x.fields) (same_fitted fit) (λ x. x.fits))
      low)
      (λ (v : T). ((row_of v).0, record { chooser = (row_of v).1.0; fields = (row_of v).1.1; fits = holds v }))
      (λ v w e. same v w (ap (λ (r : H × Fitted fit). (r.0, (r.1.chooser, r.1.fields))) e))
