-- Bytes hold no fields of the kind that an identifier tells.
use Rattle.std.proofs.Common.{◌≡◌, ℕ, List, sym, ◌∙◌, subst}
use Rattle.asn1_der.specs.Length.{element}
use Rattle.asn1_der.proofs.Elements.{element-content}
use Rattle.x509_spelling.specs.declared.fault.X509Fault.{X509Fault}
use Rattle.x509_spelling.specs.Answers.{IsRefusal}
use Rattle.x509_spelling.specs.Spellings.{Joins, Holds}
use Rattle.x509_spelling.proofs.Refusals.{refused_by}

module _ {A K : Type 0} (leads : A → List ℕ → List ℕ → ℕ → Type 0) (spells : K → List ℕ → ℕ → Type 0) (belongs : A → K → Type 0) (bytes : List ℕ) where
  pub first_refused : (fault : X509Fault) → IsRefusal (λ a n. (rest : List ℕ) × leads a bytes rest n) fault
      → IsRefusal (λ (f : A × K) n. belongs f.0 f.1 × Joins leads spells f.0 f.1 bytes n) fault
  first_refused fault refused =
      refused_by (λ a n. (rest : List ℕ) × leads a bytes rest n) (λ (f : A × K) n. belongs f.0 f.1 × Joins leads spells f.0 f.1 bytes n) fault refused
      (λ f n s. (f.0, s.1.1, (s.1.0, s.1.3)))

  pub kind_refused : ((v w : A) (b x y : List ℕ) (m n : ℕ) → leads v b x m → leads w b y n → (v ≡ w) × (x ≡ y) × (m ≡ n))
      → (a : A) (rest : List ℕ) (m : ℕ) → leads a bytes rest m → (fault : X509Fault) → IsRefusal (λ k n. belongs a k × spells k rest n) fault
      → IsRefusal (λ (f : A × K) n. belongs f.0 f.1 × Joins leads spells f.0 f.1 bytes n) fault
  kind_refused one a rest m read fault refused =
      refused_by (λ k n. belongs a k × spells k rest n) (λ (f : A × K) n. belongs f.0 f.1 × Joins leads spells f.0 f.1 bytes n) fault refused (λ f n s.
      let same = one f.0 a bytes s.1.0 rest s.1.1 m s.1.3 read in
      (f.1, s.1.2, (subst (λ (x : A). belongs x f.1) same.0 s.0, subst (λ (l : List ℕ). spells f.1 l s.1.2) same.1 s.1.4)))

-- what the content doesn't hold, the element doesn't
pub held_refused : {T : Type 0} (spells : T → List ℕ → ℕ → Type 0) (belongs : T → Type 0) (first : ℕ) (bytes content : List ℕ) → bytes ≡ element first content
    → (fault : X509Fault) → IsRefusal (λ f n. belongs f × spells f content n) fault → IsRefusal (λ f n. belongs f × Holds first spells f bytes n) fault
held_refused spells belongs first bytes content is fault refused =
    refused_by (λ f n. belongs f × spells f content n) (λ f n. belongs f × Holds first spells f bytes n) fault refused
    (λ f n s. (f, n, (s.0, subst (λ (l : List ℕ). spells f l n) (element-content first s.1.0 content (sym s.1.2 ∙ is)) s.1.1)))
