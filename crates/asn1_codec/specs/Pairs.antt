-- Two octets before other fields that are no element, as the token id of a Kerberos message (RFC 4121, section 4.1).
use Rattle.std.specs.Prelude.{ℕ, List, [], ◌∷◌}
use Rattle.asn1_der.specs.Tree.{Trees, absent, none, more, bare}

-- the trees with two octets before them; other octets than two have none
abbrev pub pair_before : List ℕ → Trees → Trees
pair_before [] trees = more absent none
pair_before (first ∷ []) trees = more absent none
pair_before (first ∷ (second ∷ [])) trees = bare first (bare second trees)
pair_before (first ∷ (second ∷ (third ∷ others))) trees = more absent none
