-- Any octet begins an element, and no two elements are spelled alike.
use Rattle.std.proofs.Common.{◌≡◌, ℕ, Bool, true, false, List, [], ◌++◌, refl, sym, ap, ◌∙◌}
use Rattle.asn1_der.specs.Length.{element}
use Rattle.asn1_der.specs.Tree.{leaf}
use Rattle.asn1_der.specs.Firsts.{any_octet, BeginsAmong}
use Rattle.asn1_der.proofs.Elements.{element-one}
use Rattle.asn1_der.proofs.Leaf.{leaf-whole, der-leaf}
use Rattle.asn1_der.proofs.Spelling.{IsInjective}
use Rattle.asn1_der.proofs.Rows.{AllBeginAmong}
use Rattle.picky_asn1_der.specs.Raw.{has_low_number, raw_tree}

begins_any : (valid : Bool) (first : ℕ) (content : List ℕ) → BeginsAmong any_octet (leaf valid first content)
begins_any true first content = refl
begins_any false first content = tt

pub raw-begins : AllBeginAmong any_octet raw_tree
raw-begins raw = begins_any (has_low_number raw.first) raw.first raw.content

pub raw-injective : IsInjective raw_tree
raw-injective v w whole also e =
    let left = der-leaf (has_low_number v.first) v.first v.content (leaf-whole (has_low_number v.first) v.first v.content whole) in
    let right = der-leaf (has_low_number w.first) w.first w.content (leaf-whole (has_low_number w.first) w.first w.content also) in
    let same : element v.first v.content ≡ element w.first w.content = sym left ∙ e ∙ right in
    let parts = element-one v.first w.first v.content w.content [] [] (ap (λ (l : List ℕ). l ++ []) same) in
    λ i. record { first = parts.0 i; content = parts.1 i }
