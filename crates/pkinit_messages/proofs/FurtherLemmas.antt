-- A further field that is expected begins with its identifier octet.
use Rattle.std.proofs.Common.{◌≡◌, ℕ, true, List, ◌++◌, Some, sym, ap, subst, ◌∙◌}
use Rattle.asn1_der.proofs.Elements.{element-begins}
use Rattle.asn1_der.proofs.Leaf.{leaf-whole, der-leaf}
use Rattle.asn1_codec.specs.Reading.{Reading, IsSpelling, IsElement}
use Rattle.asn1_codec.proofs.FieldsLemmas.{nonempty}
use Rattle.picky_asn1_der.proofs.ChoiceLemmas.{spelled_octets}
use Rattle.picky_asn1_der.proofs.RawLemmas.{IsNext}
use Rattle.pkinit_messages.specs.Further.{further_tree, is_further}

pub further_next : (old : Reading) (octet : ℕ) → IsNext old octet → (bytes rest : List ℕ) → IsSpelling further_tree bytes → old.left ≡ Some (bytes ++ rest)
    → (is_further octet ≡ true) × IsElement octet bytes
further_next old octet next bytes rest p left =
    let field = p.0 in
    let valid = leaf-whole (is_further field.first) field.first field.content p.1.0 in
    let is = p.1.1 ∙ der-leaf (is_further field.first) field.first field.content valid in
    let parts = nonempty bytes (spelled_octets further_tree bytes p) in
    let first = next (parts.1 ++ rest) parts.0 (left ∙ ap (λ l. Some (l ++ rest)) parts.2) in
    let same : field.first ≡ octet =
    element-begins field.first field.content parts.0 (parts.1 ++ rest) rest (sym (ap (λ (l : List ℕ). l ++ rest) is) ∙ ap (λ l. l ++ rest) parts.2) ∙ first in (
      subst (λ (x : ℕ). is_further x ≡ true) same valid,
      subst (λ (x : ℕ). IsElement x bytes) same (field.content, is),
    )
