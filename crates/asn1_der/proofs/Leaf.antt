-- A primitive value, of which only those of its type have a tree.
use Rattle.std.proofs.Common.{◌≡◌, ℕ, Bool, true, false, List, refl, ap, sym, ◌∙◌}
use Rattle.asn1_der.specs.Tree.{primitive, leaf, der, IsWhole}
use Rattle.asn1_der.specs.Length.{element}
use Rattle.asn1_der.specs.Firsts.{only, BeginsAmong}
use Rattle.asn1_der.proofs.Elements.{element-content}
use Rattle.asn1_der.proofs.Spelling.{may_begin-only}

-- what has a tree is one of its type
pub leaf-whole : (valid : Bool) (first : ℕ) (content : List ℕ) → IsWhole (leaf valid first content) → valid ≡ true
leaf-whole true first content whole = refl
leaf-whole false first content whole = absurd whole

pub whole-leaf : (valid : Bool) (first : ℕ) (content : List ℕ) → valid ≡ true → IsWhole (leaf valid first content)
whole-leaf true first content is = tt
whole-leaf false first content is = absurd (cc (is))

pub leaf-is : (valid : Bool) (first : ℕ) (content : List ℕ) → valid ≡ true → leaf valid first content ≡ primitive first content
leaf-is valid first content is = ap (λ v. leaf v first content) is

pub der-leaf : (valid : Bool) (first : ℕ) (content : List ℕ) → valid ≡ true → der (leaf valid first content) ≡ element first content
der-leaf valid first content is = ap (λ v. der (leaf v first content)) is

pub leaf-begins : (valid : Bool) (first : ℕ) (content : List ℕ) → BeginsAmong (only first) (leaf valid first content)
leaf-begins true first content = may_begin-only first
leaf-begins false first content = tt

pub leaf-injective_as : {T : Type 0} (Same : T → T → Type 0) (valid : T → Bool) (first : ℕ) (content : T → List ℕ)
    → ((v w : T) → valid v ≡ true → valid w ≡ true → content v ≡ content w → Same v w)
    → (v w : T) → IsWhole (leaf (valid v) first (content v)) → IsWhole (leaf (valid w) first (content w))
    → der (leaf (valid v) first (content v)) ≡ der (leaf (valid w) first (content w)) → Same v w
leaf-injective_as Same valid first content injective v w whole also e =
    let left = leaf-whole (valid v) first (content v) whole in
    let right = leaf-whole (valid w) first (content w) also in
    injective v w left right
    (element-content first (content v) (content w)
    (sym (der-leaf (valid v) first (content v) left) ∙ e ∙ der-leaf (valid w) first (content w) right))

pub leaf-injective : {T : Type 0} (valid : T → Bool) (first : ℕ) (content : T → List ℕ)
    → ((v w : T) → valid v ≡ true → valid w ≡ true → content v ≡ content w → v ≡ w)
    → (v w : T) → IsWhole (leaf (valid v) first (content v)) → IsWhole (leaf (valid w) first (content w))
    → der (leaf (valid v) first (content v)) ≡ der (leaf (valid w) first (content w)) → v ≡ w
leaf-injective valid first content injective = leaf-injective_as (λ v w. v ≡ w) valid first content injective
