-- Parameters of any type, which are none where they are NULL.
use Rattle.std.proofs.Common.{◌≡◌, ℕ, true, List, [], ◌∷◌, length, Option, None, Some, refl, sym, ◌∙◌, subst, arith}
use Rattle.std.specs.Prelude.{Bool, ◌&&◌, ◌==◌, IsTrue}
use Rattle.std.proofs.lemmas.Bool.{and_parts, eqb-true}
use Rattle.asn1_der.specs.Tree.{IsWhole, Writes}
use Rattle.asn1_der.specs.Length.{element}
use Rattle.asn1_der.proofs.Elements.{element-split}
use Rattle.asn1_der.specs.Firsts.{any_octet}
use Rattle.asn1_der.proofs.Leaf.{leaf-whole, whole-leaf, der-leaf}
use Rattle.picky_asn1_der.specs.Raw.{Raw, has_low_number, raw_tree}
use Rattle.picky_asn1_der.specs.RawLaws.{raw-injective}
use Rattle.x509_spelling.specs.Spellings.{IsExact, has_low_tag}
use Rattle.x509_spelling.specs.Laws.{SpellingLaws}
use Rattle.x509_fields.specs.declared.raw_algorithm_identifier.RawParameters.{RawParameters}
use Rattle.asn1_der.specs.Octets.{null_octet}

-- the element is NULL (X.690, section 8.8)
abbrev pub is_null : Raw → Bool
is_null raw = (raw.first == null_octet) && (length raw.content == 0)

-- the element NULL (X.690, section 8.8)
abbrev pub null : Raw
null = record { first = null_octet; content = [] }

-- the element that parameters are written as
abbrev pub parameters_of : Option Raw → Raw
parameters_of None = null
parameters_of (Some raw) = raw

empty : (content : List ℕ) → length content ≡ 0 → content ≡ []
empty [] e = refl
empty (octet ∷ content) e = absurd (omega arith)

null_is : (raw : Raw) → IsTrue (is_null raw) → (raw.first ≡ null_octet) × (raw.content ≡ [])
null_is raw null =
    let parts = and_parts (raw.first == null_octet) (length raw.content == 0) null in
    (eqb-true raw.first null_octet parts.0, empty raw.content (eqb-true (length raw.content) 0 parts.1))

pub one_null : (v w : Raw) → IsTrue (is_null v) → IsTrue (is_null w) → v ≡ w
one_null v w left right =
    let l = null_is v left in
    let r = null_is w right in
    let first = l.0 ∙ sym r.0 in
    let content = l.1 ∙ sym r.1 in
    λ i. record { first = first i; content = content i }

pub null_whole : (raw : Raw) → IsTrue (is_null raw) → IsWhole (raw_tree raw)
null_whole raw null =
    whole-leaf (has_low_number raw.first) raw.first raw.content
    (subst (λ (first : ℕ). has_low_number first ≡ true) (sym (null_is raw null).0) refl)

raw_is : (raw : Raw) (b : List ℕ) → Writes raw_tree raw b → b ≡ element raw.first raw.content
raw_is raw b s = s.1 ∙ der-leaf (has_low_number raw.first) raw.first raw.content (leaf-whole (has_low_number raw.first) raw.first raw.content s.0)

-- an element of any type is spelled in one way
pub raw_laws : SpellingLaws true any_octet (λ (v : RawParameters). raw_tree v.0) (IsExact (λ (v : RawParameters). raw_tree v.0))
raw_laws = record {
  strict = λ v whole. ((whole, refl), refl);
  only = λ v b s. s.0.1;
  whole = λ v b n s. s.0.0;
  one = λ v w b m n s r.
      let same = raw-injective v.0 w.0 s.0.0 r.0.0 (sym s.0.1 ∙ r.0.1) in
      ((λ i. record { 0 = same i }), s.1 ∙ sym r.1);
  element_of = λ v b n s. (v.0.first, v.0.content, refl, raw_is v.0 b s.0);
  low = λ _ v b n s.
      subst (λ (l : List ℕ). has_low_tag l ≡ true) (sym (raw_is v.0 b s.0 ∙ element-split v.0.first v.0.content))
      (leaf-whole (has_low_number v.0.first) v.0.first v.0.content s.0.0);
}
