-- Attributes of names (RFC 5280, section 4.1.2.4; X.520, section 6): an identifier, and a value whose type it decides.
use Rattle.std.specs.Prelude.{◌≡◌, ℕ, Bool, false, true, IsTrue, not, ◌&&◌, ◌||◌, ◌==◌, nat_le, List, [], ◌∷◌, refl}
use Rattle.std.specs.Bool.{nat_eq}
use Rattle.std.specs.Cmp.Lexicographic.{pointwise}
use Rattle.std.specs.Str.{is_utf8}
use Rattle.asn1_leaves.specs.CharSets.{is_printable_string, is_bmp_string, is_general_string}
use Rattle.asn1_leaves.specs.ObjectIdentifier.{oid_content, subidentifier}
use Rattle.picky_asn1_der.specs.Raw.{Raw, has_low_number}
use Rattle.x509_oids.specs.Identifiers as oids
use Rattle.x509_fields.specs.declared.directory_string.DirectoryString.{DirectoryString}
use Rattle.x509_fields.specs.declared.directory_string.DirectoryString.TheVariants.{PrintableString, Utf8String, BmpString}
use Rattle.x509_fields.specs.declared.attribute_type_and_value.AttributeValue.{AttributeValue}
use Rattle.x509_fields.specs.declared.attribute_type_and_value.AttributeValue.TheVariants.{Directory, Email, Custom}
use Rattle.asn1_der.specs.Octets.{bmp_string_octet, ia5_string_octet, printable_string_octet, utf8_string_octet}

-- the attributes of X.520 that have a value of type DirectoryString here, as arcs behind id-at
abbrev pub is_string_attribute : ℕ → Bool
is_string_attribute number = (nat_le 3 number && nat_le number 11) || (number == 20) || (number == 42)

-- id-at, and one arc that is such an attribute's, as content octets
abbrev pub is_string_content : List ℕ → Bool
is_string_content [] = false
is_string_content (first ∷ []) = false
is_string_content (first ∷ second ∷ []) = false
is_string_content (first ∷ second ∷ number ∷ []) = (first == 0x55) && ((second == 4) && is_string_attribute number)
is_string_content (first ∷ second ∷ number ∷ other ∷ octets) = false

-- the content octets of emailAddress (RFC 2985, section 5.2.1)
abbrev pub email_content : List ℕ
email_content = 0x2A ∷ 0x86 ∷ 0x48 ∷ 0x86 ∷ 0xF7 ∷ 0x0D ∷ 1 ∷ 9 ∷ 1 ∷ []

-- the content octets are those of emailAddress (RFC 2985, section 5.2.1)
abbrev pub is_email_content : List ℕ → Bool
is_email_content content = pointwise nat_eq content email_content

pub email_content-is : oid_content oids.email_address ≡ email_content
unfolding oid_content subidentifier
email_content-is = refl

pub common_name_content-is : oid_content oids.at_common_name ≡ 0x55 ∷ 4 ∷ 3 ∷ []
unfolding oid_content subidentifier
common_name_content-is = refl

-- the content is a text of its string type
abbrev pub is_directory_text : DirectoryString → Bool
is_directory_text (PrintableString octets) = is_printable_string octets
is_directory_text (Utf8String octets) = is_utf8 octets
is_directory_text (BmpString octets) = is_bmp_string octets

-- the element that a DirectoryString is written as (RFC 5280, section 4.1.2.4)
abbrev pub directory_raw : DirectoryString → Raw
directory_raw (PrintableString octets) = record { first = printable_string_octet; content = octets }
directory_raw (Utf8String octets) = record { first = utf8_string_octet; content = octets }
directory_raw (BmpString octets) = record { first = bmp_string_octet; content = octets }

-- the element that the value is written as
abbrev pub value_raw : AttributeValue → Raw
value_raw (Directory string) = directory_raw string
value_raw (Email octets) = record { first = ia5_string_octet; content = octets }
value_raw (Custom raw) = raw

-- the value is one of the type that the identifier decides
abbrev pub is_value_of : List ℕ → AttributeValue → Bool
is_value_of arcs (Directory string) = is_string_content (oid_content arcs) && is_directory_text string
is_value_of arcs (Email octets) = is_email_content (oid_content arcs) && is_general_string octets
is_value_of arcs (Custom raw) = not (is_string_content (oid_content arcs) || is_email_content (oid_content arcs)) && has_low_number raw.first

both_true : (a b : Bool) → a ≡ true → b ≡ true → IsTrue (a && b)
both_true true true left right = refl
both_true false b left right = absurd (cc (left))
both_true true false left right = absurd (cc (right))

-- an address is a value of emailAddress
email_told : is_email_content (oid_content oids.email_address) ≡ true
unfolding oid_content subidentifier
email_told = refl

pub address_value_of : (address : List ℕ) → IsTrue (is_general_string address) → IsTrue (is_value_of oids.email_address (Email address))
address_value_of address text = both_true (is_email_content (oid_content oids.email_address)) (is_general_string address) email_told text
