-- The names of the uses of a key (RFC 5280, section 4.2.1.3).
use Rattle.std.specs.Prelude.{ℕ, ◌==◌, if◌then◌else◌, List, [], ◌∷◌, ◌++◌, codes}
use Rattle.std.specs.List.{flat_map}
use Rattle.picky_asn1.specs.BitString.{Bits, bit_of}

-- the name of the use with this number
abbrev pub use_name : ℕ → List ℕ
use_name number =
    if number == 0 then codes "digitalSignature"
    else (if number == 1 then codes "nonRepudiation"
    else (if number == 2 then codes "keyEncipherment"
    else (if number == 3 then codes "dataEncipherment"
    else (if number == 4 then codes "keyAgreement"
    else (if number == 5 then codes "keyCertSign"
    else (if number == 6 then codes "cRLSign"
    else (if number == 7 then codes "encipherOnly" else codes "decipherOnly")))))))

-- a use behind the first, if the bits have it
abbrev pub further_use : Bits → ℕ → List ℕ
further_use bits number = if bit_of bits number then codes ", " ++ use_name number else []

-- the uses with these numbers that the bits have, with `, ` between each two
abbrev pub uses_among : Bits → List ℕ → List ℕ
uses_among bits [] = []
uses_among bits (number ∷ numbers) =
    if bit_of bits number then use_name number ++ flat_map (further_use bits) numbers else uses_among bits numbers

abbrev pub uses_text : Bits → List ℕ
uses_text bits = uses_among bits (0 ∷ 1 ∷ 2 ∷ 3 ∷ 4 ∷ 5 ∷ 6 ∷ 7 ∷ 8 ∷ [])
