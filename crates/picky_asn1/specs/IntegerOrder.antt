-- The order of whole numbers by their content octets, as the ported crate derives it. It isn't that of the numbers: 127 is before -1, and
-- 256 is before 127.
use Rattle.std.specs.Prelude.{◌≡◌, refl, ℤ, pos, negsuc, nat_eq, Option, Some}
use Rattle.std.specs.Bool.{one_answer}
use Rattle.std.specs.Ordering.{nat_cmp, int_eq, on, as_partial_cmp, eq_by_cmp}
use Rattle.std.specs.declared.cmp.Ordering.{Ordering}
use Rattle.std.specs.declared.cmp.Ordering.TheVariants.{Less, Greater}
use Rattle.std.specs.Cmp.{IsTotalOrder, IsPartialOrder, on_total, signed_Decides, partial_order_from_agreeing_total}
use Rattle.std.specs.Cmp.Lexicographic.{pointwise, bytes_decides, slice_cmp, nat_list_cmp_total, texts_ties}
use Rattle.std.proofs.Common.{ap, ◌∙◌}
use Rattle.picky_asn1.specs.Integer.{natural_octets, integer_content}
use Rattle.picky_asn1.specs.IntegerLaws.{integer_content-injective}

-- the first octets that differ decide, and where there are none, the lengths
abbrev pub content_cmp : ℤ → ℤ → Ordering
content_cmp = on integer_content (slice_cmp nat_cmp)

abbrev pub content_partial_cmp : ℤ → ℤ → Option Ordering
content_partial_cmp = as_partial_cmp content_cmp

-- it is a total order
pub content_total : IsTotalOrder content_cmp
content_total = on_total integer_content nat_list_cmp_total

-- numbers are equal exactly where their contents are
same_content : (y z : ℤ) → int_eq y z ≡ pointwise nat_eq (integer_content y) (integer_content z)
same_content y z =
    one_answer (int_eq y z) (pointwise nat_eq (integer_content y) (integer_content z))
    (λ e. ap integer_content ((signed_Decides y z).0 e), λ e. (signed_Decides y z).1 (integer_content-injective y z e))
    (bytes_decides (integer_content y) (integer_content z))

-- so it ties equal numbers alone
pub content_ties : (y z : ℤ) → int_eq y z ≡ eq_by_cmp content_cmp y z
content_ties y z = same_content y z ∙ texts_ties (integer_content y) (integer_content z)

pub content_order : IsPartialOrder int_eq content_partial_cmp
content_order = partial_order_from_agreeing_total content_cmp content_total (λ y z. refl) content_ties

pub content_cmp-127 : content_cmp (pos 127) (negsuc 0) ≡ Less
unfolding integer_content natural_octets
content_cmp-127 = refl

pub content_cmp-256 : content_cmp (pos 127) (pos 256) ≡ Greater
unfolding integer_content natural_octets
content_cmp-256 = refl
