-- Fields that later documents add at the end of a SEQUENCE (X.680, section 25.2).
use Rattle.std.specs.Prelude.{ℕ, ◌%◌, nat_lt, Bool, true, ◌==◌, ◌&&◌, List, [], ◌∷◌}
use Rattle.std.specs.List.{list_any}
use Rattle.asn1_der.specs.Firsts.{Firsts, one_of}
use Rattle.asn1_der.specs.Tree.{Tree, leaf}
use Rattle.picky_asn1_der.specs.Raw.{Raw}
use Rattle.pkinit_messages.specs.declared.agility.further.TheConstants.{FURTHER}

-- the identifier octets of context-specific tags from [5] to [30]
abbrev pub further_octets : Firsts
further_octets = one_of FURTHER

-- A further field has such a tag (X.680, section 25.2). Test: `fields [5], [7] and [30]`, `universal element behind`.
unfoldable pub is_further : ℕ → Bool
is_further first = list_any (λ octet. octet == first) FURTHER

abbrev pub further_tree : Raw → Tree
further_tree field = leaf (is_further field.first) field.first field.content

-- The numbers of the tags ascend beyond the last known field, so each is there once (X.680, sections 25.2 and 25.6).
-- Test: `field [6] twice`, `fields [7], [6]`.
abbrev pub ascend : ℕ → List Raw → Bool
ascend last [] = true
ascend last (field ∷ fields) = nat_lt last (field.first % 32) && ascend (field.first % 32) fields
