-- What a signature covers of the signed attributes.
use Rattle.std.specs.Prelude.{ℕ, List, [], ◌∷◌}
use Rattle.asn1_der.specs.Octets.{set_octet}

-- A signature covers the signed attributes as they are in the input, with the tag of a SET OF in place of [0] (RFC 5652, section 5.4).
-- Test: `good: signature over first byte A0`, `good: plain`.
abbrev pub as_set : List ℕ → List ℕ
as_set [] = []
as_set (first ∷ rest) = set_octet ∷ rest
