-- The text of a name as RFC 4514 has it: its sets of attributes from the last to the first with commas between them, and the
-- attributes of each set with `+` between them (sections 2.1 and 2.2).
use Rattle.std.specs.Prelude.{◌≡◌, ℕ, Bool, ◌==◌, ◌&&◌, ◌||◌, nat_eq, nat_le, if◌then◌else◌, List, [], ◌∷◌, ◌++◌, length, reverse, codes, refl}
use Rattle.std.specs.Char.{encode_utf8}
use Rattle.std.specs.Cmp.Lexicographic.{pointwise}
use Rattle.std.specs.List.{flat_map, join_by}
use Rattle.asn1_der.specs.Octets.{utf8_string_octet, printable_string_octet, ia5_string_octet}
use Rattle.picky_asn1_der.specs.Raw.{Raw}
use Rattle.asn1_leaves.specs.ObjectIdentifier.{dotted_text, oid_content}
use Rattle.picky_asn1.specs.IntegerText.{hexadecimal}
use Rattle.x509_fields.specs.Attributes.{value_raw}
use Rattle.x509_fields.specs.NameText.{element_text}
use Rattle.x509_fields.specs.declared.attribute_type_and_value.AttributeTypeAndValue.{AttributeTypeAndValue}

-- the content octets of domainComponent and of userId (RFC 4519, sections 2.4 and 2.39)
abbrev pub domain_component_content : List ℕ
domain_component_content = 0x09 ∷ 0x92 ∷ 0x26 ∷ 0x89 ∷ 0x93 ∷ 0xF2 ∷ 0x2C ∷ 0x64 ∷ 1 ∷ 25 ∷ []

abbrev pub user_id_content : List ℕ
user_id_content = 0x09 ∷ 0x92 ∷ 0x26 ∷ 0x89 ∷ 0x93 ∷ 0xF2 ∷ 0x2C ∷ 0x64 ∷ 1 ∷ 1 ∷ []

-- the short name of the type with this arc behind id-at, empty where section 3 has none
abbrev pub arc_name : ℕ → List ℕ
arc_name arc =
    if arc == 3 then codes "CN"
    else (if arc == 6 then codes "C"
    else (if arc == 7 then codes "L"
    else (if arc == 8 then codes "ST"
    else (if arc == 9 then codes "STREET"
    else (if arc == 10 then codes "O"
    else (if arc == 11 then codes "OU" else []))))))

-- the short name of the type whose content octets are id-at and one arc; empty where RFC 4514, section 3 has none
abbrev pub id_at_name : List ℕ → List ℕ
id_at_name [] = []
id_at_name (first ∷ []) = []
id_at_name (first ∷ second ∷ []) = []
id_at_name (first ∷ second ∷ arc ∷ []) = if (first == 0x55) && (second == 4) then arc_name arc else []
id_at_name (first ∷ second ∷ arc ∷ other ∷ octets) = []

-- the short name of the type whose identifier has these content octets, empty where section 3 has none
abbrev pub short_name : List ℕ → List ℕ
short_name content =
    if pointwise nat_eq content domain_component_content then codes "DC"
    else (if pointwise nat_eq content user_id_content then codes "UID" else id_at_name content)

-- the characters that a backslash precedes wherever they stand: `"`, `+`, `,`, `;`, `<`, `>` and the backslash (section 2.4)
abbrev pub is_special : ℕ → Bool
is_special octet = (octet == 34) || (octet == 43) || (octet == 44) || (octet == 59) || (octet == 60) || (octet == 62) || (octet == 92)

-- the characters that are written as themselves: the other ones of ASCII that print
abbrev pub is_plain : ℕ → Bool
is_plain octet = nat_le 32 octet && nat_le octet 126

-- an octet of a text inside the text: any that doesn't print is a backslash and two hexadecimal digits
abbrev pub escaped : ℕ → List ℕ
escaped octet =
    if is_special octet then 92 ∷ encode_utf8 octet
    else (if is_plain octet then encode_utf8 octet else 92 ∷ hexadecimal octet)

-- the first octet: a backslash precedes a space and `#` too
abbrev pub first_escaped : ℕ → List ℕ
first_escaped octet = if (octet == 32) || (octet == 35) then 92 ∷ encode_utf8 octet else escaped octet

-- the last octet: a backslash precedes a space too
abbrev pub last_escaped : ℕ → List ℕ
last_escaped octet = if octet == 32 then 92 ∷ encode_utf8 octet else escaped octet

-- the octets after the first
abbrev pub escaped_behind : List ℕ → List ℕ
escaped_behind [] = []
escaped_behind (octet ∷ []) = last_escaped octet
escaped_behind (octet ∷ next ∷ octets) = escaped octet ++ escaped_behind (next ∷ octets)

-- a text
abbrev pub escaped_text : List ℕ → List ℕ
escaped_text [] = []
escaped_text (octet ∷ octets) = first_escaped octet ++ escaped_behind octets

-- the types of strings whose octets are printed as text: UTF8String, PrintableString and IA5String
abbrev pub is_text : ℕ → Bool
is_text first = (first == utf8_string_octet) || ((first == printable_string_octet) || (first == ia5_string_octet))

-- a value by a short name: a text, and of another type `#` and the hexadecimal digits of its encoding
abbrev pub named_value : Raw → List ℕ
named_value raw = if is_text raw.first then escaped_text raw.content else codes "#" ++ element_text raw

-- an attribute by its short name, else by its identifier, with the digits of its value's encoding (sections 2.3 and 2.4)
abbrev pub written_as : List ℕ → List ℕ → Raw → List ℕ
written_as name arcs raw =
    if length name == 0 then dotted_text arcs ++ codes "=#" ++ element_text raw
    else name ++ codes "=" ++ named_value raw

abbrev pub pair_text : AttributeTypeAndValue → List ℕ
pair_text attribute = written_as (short_name (oid_content attribute.ty.0)) attribute.ty.0 (value_raw attribute.value)

abbrev pub set_text : List AttributeTypeAndValue → List ℕ
set_text = join_by pair_text (codes "+")

abbrev pub rfc4514_text : List (List AttributeTypeAndValue) → List ℕ
rfc4514_text sets = join_by set_text (codes ",") (reverse sets)

-- values of the examples of section 4
pub escaped_text-james : escaped_text (codes "James \"Jim\" Smith, III") ≡ codes "James \\\"Jim\\\" Smith\\, III"
unfolding encode_utf8
escaped_text-james = refl

pub escaped_text-return : escaped_text (codes "Before" ++ 13 ∷ codes "After") ≡ codes "Before\\0DAfter"
unfolding encode_utf8
escaped_text-return = refl

pub escaped_text-lucic : escaped_text (76 ∷ 117 ∷ 0xC4 ∷ 0x8D ∷ 105 ∷ 0xC4 ∷ 0x87 ∷ []) ≡ codes "Lu\\C4\\8Di\\C4\\87"
unfolding encode_utf8
escaped_text-lucic = refl
