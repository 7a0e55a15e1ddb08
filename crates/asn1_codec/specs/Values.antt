-- The trees of Rust's own types, and an element of any type.
use Rattle.std.specs.Prelude.{◌≡◌, ℕ, ◌%◌, Bool, true, false, ⊤, List}
use Rattle.std.specs.Str.{IsUtf8}
use Rattle.asn1_der.specs.Tree.{Tree}
use Rattle.asn1_der.specs.Length.{element}
use Rattle.asn1_der.specs.Tagged.{leaf_as}
use Rattle.asn1_der.specs.declared.error.Asn1DerError.{Asn1DerError}
use Rattle.asn1_der.specs.declared.error.Asn1DerError.TheVariants.{UnsupportedType}
use Rattle.asn1_codec.specs.Reading.{Reading, Refused}
use Rattle.asn1_codec.specs.Booleans.{bool_content}
use Rattle.asn1_codec.specs.Nulls.{null_content}
use Rattle.asn1_codec.specs.Characters.{is_character, character_content}
use Rattle.asn1_der.specs.Octets.{boolean_octet, null_octet, utf8_string_octet}

-- BOOLEAN is universal 1, NULL universal 5 and UTF8String universal 12 (X.680, section 8.4)
abbrev pub bool_tree : Bool → Tree
bool_tree = leaf_as (λ _. true) bool_content boolean_octet

-- NULL is universal 5 and has no content octets (X.690, section 8.8)
abbrev pub null_tree : ⊤ → Tree
null_tree = leaf_as (λ _. true) null_content null_octet

-- a text of one character
abbrev pub character_tree : ℕ → Tree
character_tree = leaf_as is_character character_content utf8_string_octet

-- the bytes are one element, of which the tag's number is in the identifier octet (X.690, section 8.1.2.2)
abbrev pub IsAnyElement : List ℕ → Type 0
IsAnyElement bytes = (first : ℕ) × (content : List ℕ) × (first % 32 ≡ 31 → ⊥) × (bytes ≡ element first content)

-- the bytes are a UTF8String (X.690, section 8.23)
abbrev pub IsTextElement : List ℕ → Type 0
IsTextElement bytes = (text : List ℕ) × IsUtf8 text × (bytes ≡ element utf8_string_octet text)

-- a call for a type that has no DER was refused, and for no other cause
abbrev pub IsUnsupported : Reading → Reading → Asn1DerError → Type 0
IsUnsupported old new fault = Refused (λ _. ⊥) old new fault × (old.failed ≡ false → fault ≡ UnsupportedType)
