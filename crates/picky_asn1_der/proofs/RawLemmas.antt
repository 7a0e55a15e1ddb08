-- An element that is expected begins with its identifier octet.
use Rattle.std.proofs.Common.{◌≡◌, ℕ, true, List, ◌∷◌, ◌++◌, Some, sym, ap, subst, ◌∙◌}
use Rattle.asn1_der.proofs.Elements.{element-begins}
use Rattle.asn1_der.proofs.Leaf.{leaf-whole, der-leaf}
use Rattle.picky_asn1_der.specs.Raw.{has_low_number, raw_tree}
use Rattle.asn1_codec.specs.Reading.{Reading, IsSpelling, IsElement}
use Rattle.asn1_codec.proofs.FieldsLemmas.{nonempty}
use Rattle.picky_asn1_der.proofs.ChoiceLemmas.{spelled_octets}

-- what was looked at begins what is next
abbrev pub IsNext : Reading → ℕ → Type 0
IsNext old octet = (bytes : List ℕ) (first : ℕ) → old.left ≡ Some (first ∷ bytes) → first ≡ octet

pub raw_next : (old : Reading) (octet : ℕ) → IsNext old octet → (bytes rest : List ℕ) → IsSpelling raw_tree bytes → old.left ≡ Some (bytes ++ rest)
    → (has_low_number octet ≡ true) × IsElement octet bytes
raw_next old octet next bytes rest p left =
    let raw = p.0 in
    let valid = leaf-whole (has_low_number raw.first) raw.first raw.content p.1.0 in
    let is = p.1.1 ∙ der-leaf (has_low_number raw.first) raw.first raw.content valid in
    let parts = nonempty bytes (spelled_octets raw_tree bytes p) in
    let first = next (parts.1 ++ rest) parts.0 (left ∙ ap (λ l. Some (l ++ rest)) parts.2) in
    let same : raw.first ≡ octet =
    element-begins raw.first raw.content parts.0 (parts.1 ++ rest) rest (sym (ap (λ (l : List ℕ). l ++ rest) is) ∙ ap (λ l. l ++ rest) parts.2) ∙ first in (
      subst (λ (x : ℕ). has_low_number x ≡ true) same valid,
      subst (λ (x : ℕ). IsElement x bytes) same (raw.content, is),
    )
