-- The character sets of the string types (X.680, section 41), as tests of octets. That of a UTF8String is std's `is_utf8`.
use Rattle.std.specs.Prelude.{ℕ, ◌%◌, Bool, ◌&&◌, ◌||◌, ◌==◌, nat_lt, nat_le, List, length, codes, IsTrue}
use Rattle.std.specs.List.{list_all, list_any}

-- each character is below 128: GeneralString as Kerberos has it (RFC 4120, section 5.2.1), and IA5String
abbrev pub is_general_string : List ℕ → Bool
is_general_string = list_all (λ character. nat_lt character 128)

-- The characters of a KerberosString are below 128 (RFC 4120, section 5.2.1). Test: `tgs text past 127!`.
abbrev pub IsGeneralString : List ℕ → Type 0
IsGeneralString characters = IsTrue (is_general_string characters)

-- a character from one to another
abbrev is_from_to : ℕ → ℕ → ℕ → Bool
is_from_to first last character = nat_le first character && nat_le character last

-- a capital or small letter, a digit, or one of a few marks (X.680, table 10)
abbrev pub is_printable : ℕ → Bool
is_printable character =
    is_from_to 65 90 character || is_from_to 97 122 character || is_from_to 48 57 character
    || list_any (λ mark. character == mark) (codes " '()+,-./:=?")

abbrev pub is_printable_string : List ℕ → Bool
is_printable_string = list_all is_printable

-- each character is two octets
abbrev pub is_bmp_string : List ℕ → Bool
is_bmp_string octets = length octets % 2 == 0
