-- How a leaf is read and written: its content, and whether that is the content of a value.
use Rattle.std.proofs.Common.{◌≡◌, ℕ, Bool, true, None, List, ◌++◌, Result, MatchResult, ap, subst, sym, ◌∙◌}
use Rattle.asn1_der.specs.Length.{element}
use Rattle.asn1_der.specs.Tree.{Tree, leaf, der, IsWhole}
use Rattle.asn1_der.proofs.Elements.{element-one}
use Rattle.asn1_der.proofs.Leaf.{leaf-whole, whole-leaf, der-leaf}
use Rattle.asn1_der.specs.declared.error.Asn1DerError.{Asn1DerError}
use Rattle.asn1_codec.specs.Reading.{Reading, Took, TookValue, Refused, IsSpelling, IsElement, IsOwn, stopped}
use Rattle.asn1_codec.specs.Writing.{Writing, WroteValue, NotWroteValue}
use Rattle.asn1_codec.proofs.Chain.{refused-as, refused-taken}

-- the values of a leaf type: those that are valid are an element with this identifier octet and their content
abbrev pub leaf_tree : {T : Type 0} → (T → Bool) → ℕ → (T → List ℕ) → T → Tree
leaf_tree is_valid first content value = leaf (is_valid value) first (content value)

module _ {T : Type 0} (is_valid : T → Bool) (first : ℕ) (content : T → List ℕ) where
  -- the value whose content was taken
  pub took-content : (value : T) (octets : List ℕ) (old new : Reading) → Took (element first octets) old new
      → is_valid value ≡ true → content value ≡ octets → TookValue (leaf_tree is_valid first content) value old new
  took-content value octets old new took valid is = (
    whole-leaf (is_valid value) first (content value) valid,
    subst (λ bytes. Took bytes old new) (ap (element first) (sym is) ∙ sym (der-leaf (is_valid value) first (content value) valid)) took,
  )

  spelled : (bytes : List ℕ) (value : T) → IsWhole (leaf_tree is_valid first content value) → bytes ≡ der (leaf_tree is_valid first content value)
      → (is_valid value ≡ true) × (bytes ≡ element first (content value))
  spelled bytes value whole is =
      let valid = leaf-whole (is_valid value) first (content value) whole in
      (valid, is ∙ der-leaf (is_valid value) first (content value) valid)

  -- the element was refused
  pub refused-element : (old new : Reading) (fault : Asn1DerError) → Refused (IsElement first) old new fault
      → Refused (IsSpelling (leaf_tree is_valid first content)) old new fault
  refused-element old new fault refused =
      refused-as (IsSpelling (leaf_tree is_valid first content)) (IsElement first) old new fault refused
      (λ bytes p. (content p.0, (spelled bytes p.0 p.1.0 p.1.1).1))

  -- an element was taken, its content is that of no value, and the call refused
  pub refused-content : (octets : List ℕ) (old mid new : Reading) (fault kind : Asn1DerError) → Took (element first octets) old mid
      → new ≡ stopped mid → fault ≡ kind → IsOwn kind
      → ((value : T) → is_valid value ≡ true → content value ≡ octets → ⊥)
      → Refused (IsSpelling (leaf_tree is_valid first content)) old new fault
  refused-content octets old mid new fault kind took is same own none =
      refused-taken (IsSpelling (leaf_tree is_valid first content)) (element first octets) old mid new fault kind took is same own
      (λ bytes rest more p e within.
      let parts = spelled bytes p.0 p.1.0 p.1.1 in
      none p.0 parts.0 (element-one first first (content p.0) octets rest more (ap (λ b. b ++ rest) (sym parts.1) ∙ e)).1)

  -- an element with the value's content was written
  pub wrote-content : (value : T) (octets : List ℕ) (old new : Writing) (answer : Result ℕ Asn1DerError) → is_valid value ≡ true → content value ≡ octets
      → MatchResult answer (WroteValue None (element first octets) old new) (NotWroteValue None (element first octets) old new)
      → MatchResult answer (WroteValue None (der (leaf_tree is_valid first content value)) old new) (NotWroteValue None (der (leaf_tree is_valid first content value)) old new)
  wrote-content value octets old new answer valid is wrote =
      subst (λ bytes. MatchResult answer (WroteValue None bytes old new) (NotWroteValue None bytes old new))
      (ap (element first) (sym is) ∙ sym (der-leaf (is_valid value) first (content value) valid)) wrote
