-- The text of names in a line: that of RFC 1964, in which a blank and what isn't printable ASCII are `\x` and two hexadecimal digits.
use Rattle.std.specs.Prelude.{◌≡◌, ℕ, ◌/◌, ◌%◌, nat_le, IsTrue, if◌then◌else◌, List, [], ◌∷◌, ◌++◌, length, codes, refl, false}
use Rattle.std.specs.List.{flat_map, list_all}
use Rattle.std.specs.Char.{encode_utf8, is_ascii_graphic}
use Rattle.std.specs.Fmt.{digits}
use Rattle.picky_asn1.specs.Bytes.{Bytes}
use Rattle.krb_messages.specs.NameText.{component_text, name_text, principal_text}
use Rattle.krb_log.specs.declared.name.TheConstants.{LONG_NAME, NAME_ROOM}

-- An octet of a name's text. A blank, and what isn't printable ASCII, is `\x` with two hexadecimal digits.
abbrev pub shown_octet : ℕ → List ℕ
shown_octet octet =
    if is_ascii_graphic octet then encode_utf8 octet
    else (codes "\\x" ++ digits 16 false (octet / 16) ++ digits 16 false (octet % 16))

-- the text of a name, or of a part of one
abbrev pub shown_text : List ℕ → List ℕ
shown_text = flat_map shown_octet

-- a component, or a realm
abbrev pub shown_component : Bytes → List ℕ
shown_component component = shown_text (component_text component)

-- a text, or `(long)` where it has more than 512 octets
abbrev pub fitting : List ℕ → List ℕ
fitting text = if nat_le (length text) NAME_ROOM then text else LONG_NAME.now

-- a name in its realm
abbrev pub shown_name : List Bytes → Bytes → List ℕ
shown_name components realm = fitting (shown_text (principal_text components realm))

-- each character is printable ASCII, and none is a blank
abbrev pub IsVisible : List ℕ → Type 0
IsVisible text = IsTrue (list_all is_ascii_graphic text)

pub shown_text-host : shown_text (principal_text (codes "host" ∷ codes "www.example.com" ∷ []) (codes "EXAMPLE.COM")) ≡ codes "host/www.example.com@EXAMPLE.COM"
unfolding encode_utf8
shown_text-host = refl

-- worked: marks, a blank, a line break, and an escape
pub shown_text-marks : shown_text (name_text (codes "a/b@c\\" ∷ codes "d e" ∷ (10 ∷ []) ∷ (27 ∷ []) ∷ [])) ≡ codes "a\\/b\\@c\\\\/d\\x20e/\\n/\\x1b"
unfolding encode_utf8 digits
shown_text-marks = refl
