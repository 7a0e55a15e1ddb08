-- Fields that don't agree are those of no value.
use Rattle.std.proofs.Common.{◌≡◌, ℕ, List, ◌++◌, Option, None, Some, MatchOption, refl, sym, ap, ◌∙◌}
use Rattle.asn1_der.specs.Tree.{Trees, AreWhole, ders}
use Rattle.asn1_der.specs.Length.{element}
use Rattle.asn1_der.specs.Tagged.{sequence}
use Rattle.asn1_der.specs.Seen.{Seen, as_is, by, Alike}
use Rattle.asn1_der.proofs.Rows.{AreInjectiveAs}
use Rattle.asn1_der.proofs.Elements.{element-one}
use Rattle.asn1_codec.specs.Reading.{IsSpelling}
use Rattle.x509_spelling.specs.PlainLaws.{IsPlain}

pub none_there : {A : Type 0} (o : Option A) (P : Type 0) (Q : A → Type 0) → MatchOption o P Q → ((x : A) → o ≡ Some x → ⊥) → P
none_there None P Q p isnt = p
none_there (Some x) P Q q isnt = absurd (isnt x refl)

alike-same : {R : Type 0} (seen : Seen R) → IsPlain seen → (x y : R) → Alike seen x y → x ≡ y
alike-same as_is plain x y e = e
alike-same (by V view) plain x y e = absurd plain

pub no_value : {R T : Type 0} (seen : Seen R) → IsPlain seen → (trees : R → Trees) → AreInjectiveAs (Alike seen) trees → (row_of : T → R) (tag : ℕ) (fields : R) → ((v : T) → row_of v ≡ fields → ⊥)
    → AreWhole (trees fields) → (bytes rest more : List ℕ) → IsSpelling (λ v. sequence trees tag (row_of v)) bytes
    → bytes ++ rest ≡ element tag (ders (trees fields)) ++ more → ⊥
no_value seen plain trees one row_of tag fields none whole bytes rest more p split =
    let parts = element-one tag tag (ders (trees (row_of p.0))) (ders (trees fields)) rest more (ap (λ (l : List ℕ). l ++ rest) (sym p.1.1) ∙ split) in
    none p.0 (alike-same seen plain (row_of p.0) fields (one (row_of p.0) fields p.1.0 whole parts.1))
