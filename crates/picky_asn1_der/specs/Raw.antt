-- An element of any type, as its identifier octet and its content.
use Rattle.std.specs.Prelude.{ℕ, ◌%◌, Bool, not, ◌==◌, List}
use Rattle.asn1_der.specs.Tree.{Tree, leaf}

-- an element of any type: its identifier octet, and its content octets
pub record Raw : Type 0 where
  pub first : ℕ
  pub content : List ℕ

-- A tag's number is in the identifier octet itself: it is below 31 (X.690, section 8.1.2.2). Test: `not_split` of `elements.rt`.
abbrev pub has_low_number : ℕ → Bool
has_low_number first = not (first % 32 == 31)

abbrev pub raw_tree : Raw → Tree
raw_tree raw = leaf (has_low_number raw.first) raw.first raw.content
