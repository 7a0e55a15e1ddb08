-- Values that are a SEQUENCE, of which the first element is signed.
use Rattle.std.proofs.Common.{◌≡◌, ℕ, ◌+◌, true, List, [], ◌∷◌, ◌++◌, Result, Ok, Err, ap, ◌∙◌, subst}
use Rattle.std.specs.Prelude.{Bool, ⊤, ◌↔◌}
use Rattle.asn1_der.specs.Tree.{Tree, der}
use Rattle.asn1_der.specs.Length.{element}
use Rattle.asn1_der.specs.Firsts.{Firsts}
use Rattle.asn1_der.proofs.Elements.{element-split}
use Rattle.picky_asn1_der.specs.Raw.{Raw}
use Rattle.picky_asn1_der.specs.Splits.{SplitsInto}
use Rattle.picky_asn1_der.specs.Parts.{AreElements, IsPart}
use Rattle.x509_spelling.specs.Spellings.{has_low_tag, Leads, IsEnd, Joins, Holds}
use Rattle.x509_spelling.specs.Laws.{SpellingLaws}
use Rattle.asn1_der.specs.Octets.{sequence_octet}

-- the value alone, where it was read with another
abbrev pub value_of : {T S E : Type 0} → Result (T × S) E → Result T E
value_of (Ok read) = Ok read.0
value_of (Err fault) = Err fault

-- the bytes are a SEQUENCE: a spelling of the part begins its content, and elements follow it
pub record HoldsFirst {P : Type 0} (spells : P → List ℕ → ℕ → Type 0) (part : P) (bytes : List ℕ) (n : ℕ) : Type 0 where
  pub content : List ℕ
  pub rest : List ℕ
  pub own : ℕ
  pub others : ℕ
  pub raws : List Raw
  pub is : bytes ≡ element sequence_octet content
  pub leads : Leads spells part content rest own
  pub are : AreElements raws rest
  pub sum : n ≡ own + others

-- The signed part is the input's own bytes, the first element of its content, and is never encoded again. Its DER is the same exactly
-- where nothing deviates in it (RFC 5280, section 4.1). Test: `certificates.txt`.
pub record IsSignedPart {P : Type 0} (spells : P → List ℕ → ℕ → Type 0) (tree : P → Tree) (part : P) (bytes signed : List ℕ) : Type 0 where
  pub place : IsPart bytes (0 ∷ []) signed
  pub spelled : (n : ℕ) × spells part signed n
  pub rewriting : (n : ℕ) → spells part signed n → (der (tree part) ≡ signed) ↔ (n ≡ 0)

-- a spelling that begins some bytes is an element there
pub leads_element : {T : Type 0} (is_low : Bool) (firsts : Firsts) (tree : T → Tree) (spells : T → List ℕ → ℕ → Type 0) → SpellingLaws is_low firsts tree spells
    → (v : T) (bytes rest : List ℕ) (n : ℕ) → Leads spells v bytes rest n → (raw : Raw) × SplitsInto bytes raw rest
leads_element is_low firsts tree spells laws v bytes rest n s =
    let l = laws.element_of v s.0 n s.1 in
    let low = subst (λ (f : List ℕ). has_low_tag f ≡ true) (l.3 ∙ element-split l.0 l.1) s.2 in
    (record { first = l.0; content = l.1 }, (low, s.3 ∙ ap (λ (f : List ℕ). f ++ rest) l.3))

module _ {P A B : Type 0} (part_spells : P → List ℕ → ℕ → Type 0)
    (a_low : Bool) (a_firsts : Firsts) (a_tree : A → Tree) (a_spells : A → List ℕ → ℕ → Type 0) (a_laws : SpellingLaws a_low a_firsts a_tree a_spells)
    (b_low : Bool) (b_firsts : Firsts) (b_tree : B → Tree) (b_spells : B → List ℕ → ℕ → Type 0) (b_laws : SpellingLaws b_low b_firsts b_tree b_spells) where
  -- the part in front of two further fields
  pub holds_first : (p : P) (a : A) (b : B) (bytes : List ℕ) (n : ℕ)
      → Holds sequence_octet (λ (f : P × (A × (B × ⊤))). Joins (Leads part_spells) (λ (g : A × (B × ⊤)). Joins (Leads a_spells) (λ (h : B × ⊤). Joins (Leads b_spells) (λ (end : ⊤) (l : List ℕ) (k : ℕ). IsEnd l k) h.0 h.1) g.0 g.1) f.0 f.1)
      (p, (a, (b, tt))) bytes n
      → HoldsFirst part_spells p bytes n
  holds_first p a b bytes n s =
      let first = leads_element a_low a_firsts a_tree a_spells a_laws a s.1.0 s.1.4.0 s.1.4.1 s.1.4.3 in
      let second = leads_element b_low b_firsts b_tree b_spells b_laws b s.1.4.0 s.1.4.4.0 s.1.4.4.1 s.1.4.4.3 in
      record {
        content = s.0;
        rest = s.1.0;
        own = s.1.1;
        others = s.1.2;
        raws = first.0 ∷ second.0 ∷ [];
        is = s.2;
        leads = s.1.3;
        are = (s.1.4.0, first.1, (s.1.4.4.0, second.1, s.1.4.4.4.0));
        sum = s.1.5;
      }
