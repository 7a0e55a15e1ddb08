-- Octets of files and peers as a line shows them, and names of principals.
use Rattle.std.specs.Prelude.{ℕ, ◌+◌, ◌/◌, ◌%◌, ◌≡◌, ◌&&◌, not, nat_lt, Bool, if◌then◌else◌, List, [], ◌∷◌, ◌++◌, codes, Option, None, Some, refl}
use Rattle.std.specs.List.{flat_map}
use Rattle.krb_messages.specs.NameText.{escape_letter}

-- a printable character of ASCII: from the blank (32) to the tilde (126)
abbrev pub is_printable : ℕ → Bool
is_printable octet = not (nat_lt octet 32) && nat_lt octet 127

-- the hexadecimal digit of a number below 16: `0` is 48, and `a` is 97
abbrev pub hex_digit : ℕ → ℕ
hex_digit number = if nat_lt number 10 then 48 + number else 87 + number

-- An octet is itself if it is printable. Else it is a backslash, `x` and its two hexadecimal digits.
abbrev pub octet_text : ℕ → List ℕ
octet_text octet = if is_printable octet then octet ∷ [] else 92 ∷ 120 ∷ hex_digit (octet / 16) ∷ hex_digit (octet % 16) ∷ []

-- The text of octets.
abbrev pub printable_text : List ℕ → List ℕ
printable_text = flat_map octet_text

abbrev pub quoted_by : ℕ → Option ℕ → List ℕ
quoted_by octet (Some letter) = 92 ∷ octet_text letter
quoted_by octet None = octet_text octet

-- an octet of a component or of a realm: quoted as RFC 1964 has it, or else printable
abbrev pub name_octet : ℕ → List ℕ
name_octet octet = quoted_by octet (escape_letter octet)

-- a component, or a realm
abbrev pub part_text : List ℕ → List ℕ
part_text = flat_map name_octet

-- the components of a name, with `/` between each two
abbrev pub components_text : List (List ℕ) → List ℕ
components_text [] = []
components_text (component ∷ components) = part_text component ++ flat_map (λ further. 47 ∷ part_text further) components

-- A name in its realm is `host/server@REALM`, as RFC 1964 has it (section 2.1.3), with each further octet that isn't printable by its two
-- digits.
abbrev pub printable_name : List (List ℕ) → List ℕ → List ℕ
printable_name components realm = components_text components ++ 64 ∷ part_text realm

pub printable_text-escape : printable_text (27 ∷ codes "[31m" ++ 195 ∷ 169 ∷ []) ≡ codes "\\x1b[31m\\xc3\\xa9"
printable_text-escape = refl

pub printable_name-marks : printable_name (codes "a/b" ∷ (10 ∷ 27 ∷ []) ∷ []) (codes "R") ≡ codes "a\\/b/\\n\\x1b@R"
printable_name-marks = refl
