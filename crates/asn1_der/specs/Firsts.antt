-- The identifier octets with which the values of a type begin: by them an optional value is told from
-- what follows it.
use Rattle.std.specs.Prelude.{ℕ, Bool, true, false, not, ◌==◌, List, [], ◌∷◌, ◌++◌, IsTrue, ⊤}
use Rattle.std.specs.List.{list_any, list_all}
use Rattle.asn1_der.specs.Tree.{Tree, primitive, constructed, absent}

pub data Firsts : Type 0 where
  any_octet : Firsts
  one_of : List ℕ → Firsts

abbrev pub only : ℕ → Firsts
only first = one_of (first ∷ [])

-- whether the encoding of a value may begin with this identifier octet (X.690, section 8.1.2)
abbrev pub may_begin : Firsts → ℕ → Bool
may_begin any_octet first = true
may_begin (one_of octets) first = list_any (λ octet. octet == first) octets

-- what begins a value of the one or of the other type
abbrev pub either : Firsts → Firsts → Firsts
either any_octet others = any_octet
either (one_of octets) any_octet = any_octet
either (one_of octets) (one_of others) = one_of (octets ++ others)

-- no octet begins a value of both
abbrev pub apart : Firsts → Firsts → Bool
apart (one_of octets) others = list_all (λ octet. not (may_begin others octet)) octets
apart any_octet (one_of []) = true
apart any_octet (one_of (octet ∷ octets)) = false
apart any_octet any_octet = false

-- the tree, where it isn't missing, begins with one of them
abbrev pub BeginsAmong : Firsts → Tree → Type 0
BeginsAmong firsts (primitive first content) = IsTrue (may_begin firsts first)
BeginsAmong firsts (constructed first parts) = IsTrue (may_begin firsts first)
BeginsAmong firsts absent = ⊤
