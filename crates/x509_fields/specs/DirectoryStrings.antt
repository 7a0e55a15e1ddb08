-- A string of a name as one of three alternatives.
use Rattle.std.specs.Prelude.{◌≡◌, ℕ, ◌+◌, ◌*◌, List, [], ◌∷◌, refl}
use Rattle.std.specs.Str.{encode_utf8_all}
use Rattle.std.specs.Str.Lossy.{utf8_lossy}
use Rattle.std.specs.Char.Utf16.{utf16_lossy_chars}
use Rattle.picky_asn1_der.specs.declared.choice.Choice.{Choice}
use Rattle.picky_asn1_der.specs.declared.choice.Choice.TheVariants.{This, Other}
use Rattle.picky_asn1_der.specs.declared.choice.Last.{Last}
use Rattle.x509_fields.specs.declared.directory_string.DirectoryString.{DirectoryString}
use Rattle.x509_fields.specs.declared.directory_string.DirectoryString.TheVariants.{PrintableString, Utf8String, BmpString}

-- the content octets
abbrev pub string_octets : DirectoryString → List ℕ
string_octets (PrintableString octets) = octets
string_octets (Utf8String octets) = octets
string_octets (BmpString octets) = octets

abbrev pub string_choice : DirectoryString → Choice (List ℕ) (Choice (List ℕ) (Last (List ℕ)))
string_choice (PrintableString octets) = This octets
string_choice (Utf8String octets) = Other (This octets)
string_choice (BmpString octets) = Other (Other (record { 0 = octets }))

abbrev pub string_made : Choice (List ℕ) (Choice (List ℕ) (Last (List ℕ))) → DirectoryString
string_made (This octets) = PrintableString octets
string_made (Other (This octets)) = Utf8String octets
string_made (Other (Other last)) = BmpString last.0

pub string_back : (v : DirectoryString) → string_made (string_choice v) ≡ v
string_back (PrintableString octets) = refl
string_back (Utf8String octets) = refl
string_back (BmpString octets) = refl

-- two octets a unit, the higher first
abbrev pub utf16_units : List ℕ → List ℕ
utf16_units [] = []
utf16_units (octet ∷ []) = []
utf16_units (high ∷ low ∷ octets) = (high * 256 + low) ∷ utf16_units octets

-- the characters of a BMPString, with U+FFFD for half a pair of surrogates
abbrev pub bmp_characters : List ℕ → List ℕ
bmp_characters octets = utf16_lossy_chars (utf16_units octets)

-- the text, with U+FFFD for what is none: in a BMPString half a pair of surrogates
abbrev pub lossy_text : DirectoryString → List ℕ
lossy_text (PrintableString octets) = utf8_lossy octets
lossy_text (Utf8String octets) = octets
lossy_text (BmpString octets) = encode_utf8_all (bmp_characters octets)
