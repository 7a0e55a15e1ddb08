-- A strict spelling is one element, of which the bytes are the spelling of one value alone.
use Rattle.std.proofs.Common.{◌≡◌, ℕ, Bool, true, List, ◌++◌, refl, sym, ap, ◌∙◌, subst, inl, inr}
use Rattle.std.specs.Prelude.{IsTrue}
use Rattle.asn1_der.specs.Tree.{Tree, IsWhole, der}
use Rattle.asn1_der.specs.Length.{element}
use Rattle.asn1_der.specs.Firsts.{Firsts}
use Rattle.asn1_der.proofs.Elements.{element-one, element-split}
use Rattle.asn1_der.proofs.Leaf.{der-leaf, leaf-whole, whole-leaf}
use Rattle.asn1_der.specs.declared.error.Asn1DerError.{Asn1DerError}
use Rattle.asn1_der.specs.declared.error.Asn1DerError.TheVariants as der_fault
use Rattle.asn1_codec.specs.Reading.{Reading, TookValue, IsSpelling, Refused, stopped}
use Rattle.asn1_codec.proofs.Chain.{took-as, refused-memory, refused-taken}
use Rattle.picky_asn1_der.specs.Raw.{Raw, has_low_number, raw_tree}
use Rattle.x509_spelling.specs.declared.fault.X509Fault.{X509Fault}
use Rattle.x509_spelling.specs.declared.fault.X509Fault.TheVariants.{Der, Leaf, Meaning, Memory}
use Rattle.x509_spelling.specs.Answers.{IsRefusal}
use Rattle.x509_spelling.specs.Spellings.{has_low_tag}
use Rattle.x509_spelling.specs.Laws.{SpellingLaws}
use Rattle.x509_spelling.proofs.Rewriting.{written-strict}
use Rattle.x509_spelling.specs.StrictReading.{IsNoStrict, der_fault_of}

-- what isn't read with any count isn't read with none
pub refused_strict : {T : Type 0} (spells : T → List ℕ → ℕ → Type 0) (bytes : List ℕ) (fault : X509Fault)
    → IsRefusal (λ v n. spells v bytes n) fault → IsNoStrict spells bytes (der_fault_of fault)
refused_strict spells bytes Memory refused = inl refl
refused_strict spells bytes fault (inl memory) = inl (ap der_fault_of memory)
refused_strict spells bytes Der (inr none) = inr (refl, λ v s. none v 0 s)
refused_strict spells bytes Leaf (inr none) = inr (refl, λ v s. none v 0 s)
refused_strict spells bytes Meaning (inr none) = inr (refl, λ v s. none v 0 s)

module _ {T : Type 0} (is_low : Bool) (firsts : Firsts) (written : T → Tree) (spells : T → List ℕ → ℕ → Type 0) (laws : SpellingLaws is_low firsts written spells) where
  -- where something deviates, the bytes are the strict spelling of no value
  pub deviating : (bytes : List ℕ) (v : T) (n : ℕ) → spells v bytes n → (n ≡ 0 → ⊥) → (e : Asn1DerError) → e ≡ der_fault.InvalidData → IsNoStrict spells bytes e
  deviating bytes v n s some e is = inr (is, λ w r. some (laws.one v w bytes n 0 s r).1)

  module _ (tree : T → Tree) (same : tree ≡ written) where
    spelled : (bytes : List ℕ) (p : IsSpelling tree bytes) → spells p.0 bytes 0
    spelled bytes p = written-strict is_low firsts written spells laws tree same p.0 bytes p.1.1 p.1.0

    -- a strict spelling is an element, whose tag is in one octet
    pub strict_raw : IsTrue is_low → (bytes : List ℕ) → IsSpelling tree bytes → IsSpelling raw_tree bytes
    strict_raw low bytes p =
        let s = spelled bytes p in
        let parts = laws.element_of p.0 bytes 0 s in
        let number : has_low_number parts.0 ≡ true =
        subst (λ (l : List ℕ). has_low_tag l ≡ true) (parts.3 ∙ element-split parts.0 parts.1) (laws.low low p.0 bytes 0 s) in (
          record { first = parts.0; content = parts.1 },
          (
            whole-leaf (has_low_number parts.0) parts.0 parts.1 number,
            parts.3 ∙ sym (der-leaf (has_low_number parts.0) parts.0 parts.1 number),
          ),
        )

    raw_is : (raw : Raw) → IsWhole (raw_tree raw) → der (raw_tree raw) ≡ element raw.first raw.content
    raw_is raw whole =
        der-leaf (has_low_number raw.first) raw.first raw.content (leaf-whole (has_low_number raw.first) raw.first raw.content whole)

    -- the element that was taken is the strict spelling of the value
    pub strict_took : (raw : Raw) (bytes : List ℕ) (old new : Reading) → TookValue raw_tree raw old new → bytes ≡ element raw.first raw.content
        → (v : T) → spells v bytes 0 → TookValue tree v old new
    strict_took raw bytes old new took is v s =
        let all : der (raw_tree raw) ≡ der (tree v) =
        raw_is raw took.0 ∙ sym is ∙ laws.only v bytes s ∙ ap (λ (t : T → Tree). der (t v)) (sym same) in (
          subst (λ (t : T → Tree). IsWhole (t v)) (sym same) (laws.whole v bytes 0 s),
          took-as (der (raw_tree raw)) (der (tree v)) old new all took.1,
        )

    -- the element that was taken is the strict spelling of none
    pub strict_refused : (raw : Raw) (bytes : List ℕ) (old mid new : Reading) (e k : Asn1DerError) → TookValue raw_tree raw old mid → bytes ≡ element raw.first raw.content
        → new ≡ stopped mid → e ≡ k → IsNoStrict spells bytes k → Refused (IsSpelling tree) old new e
    strict_refused raw bytes old mid new e k took is after fault (inl memory) =
        refused-memory (IsSpelling tree) (der (raw_tree raw)) old mid new e took.1 after (fault ∙ memory)
    strict_refused raw bytes old mid new e k took is after fault (inr none) =
        refused-taken (IsSpelling tree) (der (raw_tree raw)) old mid new e der_fault.InvalidData took.1 after (fault ∙ none.0) tt
        (λ b rest more p split within.
        let s = spelled b p in
        let parts = laws.element_of p.0 b 0 s in
        let text : element parts.0 parts.1 ++ rest ≡ element raw.first raw.content ++ more =
        ap (λ (f : List ℕ). f ++ rest) (sym parts.3) ∙ split ∙ ap (λ (f : List ℕ). f ++ more) (raw_is raw took.0) in
        let fronts = element-one parts.0 raw.first parts.1 raw.content rest more text in
        none.1 p.0 (subst (λ (f : List ℕ). spells p.0 f 0) (parts.3 ∙ (λ i. element (fronts.0 i) (fronts.1 i)) ∙ sym is) s))
