-- Texts of characters below 128 are UTF-8.
use Rattle.std.proofs.Common.{◌≡◌, ℕ, zero, suc, ◌<◌, true, ltb, List, [], ◌∷◌, arith}
use Rattle.std.specs.Str.{IsAscii, is_utf8}
use Rattle.std.proofs.lemmas.Bool.{and_from, and_parts, lt-ltb, ltb-true}
use Rattle.std.proofs.lemmas.Bool.Decides.{nat_tests}
use Rattle.std.proofs.lemmas.Str.{IsUtf8-from_ascii, is_utf8-from_IsUtf8}
use Rattle.asn1_leaves.specs.CharSets.{is_general_string, is_printable, is_printable_string}

-- each octet is below 128
octet_below : (octets : List ℕ) → is_general_string octets ≡ true → IsAscii octets
octet_below [] h i = omega arith
octet_below (x ∷ xs) h zero = ltb-true x 128 (and_parts (ltb x 128) (is_general_string xs) h).0
octet_below (x ∷ xs) h (suc i) = octet_below xs (and_parts (ltb x 128) (is_general_string xs) h).1 i

-- a GeneralString and an IA5String are UTF-8
pub utf8_of_general : (octets : List ℕ) → is_general_string octets ≡ true → is_utf8 octets ≡ true
utf8_of_general octets h = is_utf8-from_IsUtf8 octets (IsUtf8-from_ascii octets (octet_below octets h))

-- a printable character is below 128
printable_below : (character : ℕ) → is_printable character ≡ true → character < 128
printable_below character h = grind (arith, nat_tests)

-- so a PrintableString is UTF-8
general_of_printable : (octets : List ℕ) → is_printable_string octets ≡ true → is_general_string octets ≡ true
general_of_printable [] h = h
general_of_printable (x ∷ xs) h =
    let parts = and_parts (is_printable x) (is_printable_string xs) h in
    and_from (ltb x 128) (is_general_string xs) (lt-ltb x 128 (printable_below x parts.0)) (general_of_printable xs parts.1)

pub utf8_of_printable : (octets : List ℕ) → is_printable_string octets ≡ true → is_utf8 octets ≡ true
utf8_of_printable octets h = utf8_of_general octets (general_of_printable octets h)
