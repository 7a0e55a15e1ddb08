-- An expected element of any type begins with its identifier octet.
use Rattle.std.proofs.Common.{◌≡◌, ℕ, ◌%◌, ◌≤◌, List, ◌∷◌, ◌++◌, length, Some, sym, ap, subst, ◌∙◌, arith}
use Rattle.asn1_der.proofs.Elements.{element-begins, length-element}
use Rattle.asn1_codec.specs.Reading.{Reading, IsElement}
use Rattle.asn1_codec.specs.Values.{IsAnyElement}
use Rattle.asn1_codec.proofs.FieldsLemmas.{nonempty}

pub any_octets : (bytes : List ℕ) → IsAnyElement bytes → 1 ≤ length bytes
any_octets bytes p = omega (arith, length-element p.0 p.1, ap length p.3)

pub any_next : (old : Reading) (octet : ℕ) → ((bytes : List ℕ) (first : ℕ) → old.left ≡ Some (first ∷ bytes) → first ≡ octet)
    → (bytes rest : List ℕ) → IsAnyElement bytes → old.left ≡ Some (bytes ++ rest) → (octet % 32 ≡ 31 → ⊥) × IsElement octet bytes
any_next old octet next bytes rest p left =
    let parts = nonempty bytes (any_octets bytes p) in
    let first = next (parts.1 ++ rest) parts.0 (left ∙ ap (λ l. Some (l ++ rest)) parts.2) in
    let same : p.0 ≡ octet =
    element-begins p.0 p.1 parts.0 (parts.1 ++ rest) rest (sym (ap (λ (l : List ℕ). l ++ rest) p.3) ∙ ap (λ l. l ++ rest) parts.2) ∙ first in (
      subst (λ (x : ℕ). x % 32 ≡ 31 → ⊥) same p.2,
      subst (λ (x : ℕ). IsElement x bytes) same (p.1, p.3),
    )
