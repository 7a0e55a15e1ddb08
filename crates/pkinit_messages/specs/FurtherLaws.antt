-- A further field begins with its octets, and no two are spelled alike.
use Rattle.std.proofs.Common.{◌≡◌, ℕ, Bool, true, false, List, [], ◌++◌, refl, sym, ap, ◌∙◌}
use Rattle.std.specs.Prelude.{IsTrue}
use Rattle.asn1_der.specs.Length.{element}
use Rattle.asn1_der.specs.Tree.{leaf}
use Rattle.asn1_der.specs.Firsts.{Firsts, BeginsAmong, may_begin}
use Rattle.asn1_der.proofs.Elements.{element-one}
use Rattle.asn1_der.proofs.Leaf.{leaf-whole, der-leaf}
use Rattle.asn1_der.proofs.Spelling.{IsInjective}
use Rattle.asn1_der.proofs.Rows.{AllBeginAmong}
use Rattle.pkinit_messages.specs.Further.{further_octets, further_tree, is_further}

begins_valid : (firsts : Firsts) (valid : Bool) (first : ℕ) (content : List ℕ) → (valid ≡ true → IsTrue (may_begin firsts first)) → BeginsAmong firsts (leaf valid first content)
begins_valid firsts true first content begins = begins refl
begins_valid firsts false first content begins = tt

pub further-begins : AllBeginAmong further_octets further_tree
unfolding is_further
further-begins field = begins_valid further_octets (is_further field.first) field.first field.content (λ valid. valid)

pub further-injective : IsInjective further_tree
further-injective v w whole also e =
    let left = der-leaf (is_further v.first) v.first v.content (leaf-whole (is_further v.first) v.first v.content whole) in
    let right = der-leaf (is_further w.first) w.first w.content (leaf-whole (is_further w.first) w.first w.content also) in
    let same : element v.first v.content ≡ element w.first w.content = sym left ∙ e ∙ right in
    let parts = element-one v.first w.first v.content w.content [] [] (ap (λ (l : List ℕ). l ++ []) same) in
    λ i. record { first = parts.0 i; content = parts.1 i }
