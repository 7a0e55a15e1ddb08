-- Names that OpenSSL made and printed, with `,` for its `+` between the attributes of a set, and without its `#` in front of an element.
use Rattle.std.specs.Prelude.{◌≡◌, ℕ, IsTrue, [], ◌∷◌, ◌++◌, codes, refl}
use Rattle.std.specs.Char.{encode_utf8}
use Rattle.std.specs.Char.Utf16.{utf16_chars}
use Rattle.std.specs.Fmt.{digits}
use Rattle.std.proofs.Common.{ap}
use Rattle.std.proofs.lemmas.Str.{IsUtf8-from_is_utf8, utf8_lossy-IsUtf8}
use Rattle.asn1_der.specs.Length.{element, length_octets}
use Rattle.asn1_leaves.specs.ObjectIdentifier.{dotted_text}
use Rattle.asn1_leaves.specs.TextLaws.{utf8_of_printable}
use Rattle.x509_fields.specs.declared.directory_string.DirectoryString.TheVariants.{PrintableString, Utf8String, BmpString}
use Rattle.x509_fields.specs.declared.attribute_type_and_value.AttributeValue.{AttributeValue}
use Rattle.x509_fields.specs.declared.attribute_type_and_value.AttributeValue.TheVariants.{Directory, Custom}
use Rattle.x509_fields.specs.declared.attribute_type_and_value.AttributeTypeAndValue.{AttributeTypeAndValue}
use Rattle.x509_fields.specs.Attributes.{is_value_of}
use Rattle.x509_fields.specs.NameText.{name_text}
use Rattle.asn1_der.specs.Octets.{utf8_string_octet}

-- an attribute behind id-at
abbrev Attribute : ℕ → AttributeValue → Type 0
Attribute number value = IsTrue (is_value_of (2 ∷ 5 ∷ 4 ∷ number ∷ []) value)

abbrev attribute : (number : ℕ) (value : AttributeValue) → Attribute number value → AttributeTypeAndValue
attribute number value told = record { ty = record { 0 = 2 ∷ 5 ∷ 4 ∷ number ∷ [] }; value = value; of_its_type = told }

-- four sets; of the second one's attribute the type isn't known
pub name_text-unknown :
    (o : Attribute 10 (Directory (Utf8String (codes "Example"))))
    → (t : IsTrue (is_value_of (1 ∷ 2 ∷ 3 ∷ 4 ∷ []) (Custom (record { first = utf8_string_octet; content = codes "text" }))))
    → (f : Attribute 3 (Directory (Utf8String (codes "first"))))
    → (l : Attribute 3 (Directory (Utf8String (codes "last"))))
    → name_text
    ((attribute 10 (Directory (Utf8String (codes "Example"))) o ∷ [])
    ∷ (record { ty = record { 0 = 1 ∷ 2 ∷ 3 ∷ 4 ∷ [] }; value = Custom (record { first = utf8_string_octet; content = codes "text" }); of_its_type = t } ∷ [])
    ∷ (attribute 3 (Directory (Utf8String (codes "first"))) f ∷ [])
    ∷ (attribute 3 (Directory (Utf8String (codes "last"))) l ∷ [])
    ∷ [])
    ≡ codes "2.5.4.10=Example,1.2.3.4=0C0474657874,2.5.4.3=first,2.5.4.3=last"
unfolding dotted_text digits element length_octets
name_text-unknown o t f l = refl

-- a set of three attributes
pub name_text-joined :
    (o : Attribute 10 (Directory (Utf8String (codes "Example"))))
    → (n : Attribute 5 (Directory (PrintableString (codes "7"))))
    → (c : Attribute 3 (Directory (Utf8String (codes "server"))))
    → (u : Attribute 11 (Directory (Utf8String (codes "Directory"))))
    → name_text
    ((attribute 10 (Directory (Utf8String (codes "Example"))) o ∷ [])
    ∷ (attribute 5 (Directory (PrintableString (codes "7"))) n ∷ attribute 3 (Directory (Utf8String (codes "server"))) c ∷ attribute 11 (Directory (Utf8String (codes "Directory"))) u ∷ [])
    ∷ [])
    ≡ codes "2.5.4.10=Example,2.5.4.5=7,2.5.4.3=server,2.5.4.11=Directory"
unfolding dotted_text digits
name_text-joined o n c u =
    let text = utf8_lossy-IsUtf8 (codes "7") (IsUtf8-from_is_utf8 (codes "7") (utf8_of_printable (codes "7") refl)) in
    ap (λ seven. codes "2.5.4.10=Example,2.5.4.5=" ++ seven ++ codes ",2.5.4.3=server,2.5.4.11=Directory") text

-- a BMPString: `Œuvre`
pub name_text-two_octets : (c : Attribute 3 (Directory (BmpString (1 ∷ 0x52 ∷ 0 ∷ 0x75 ∷ 0 ∷ 0x76 ∷ 0 ∷ 0x72 ∷ 0 ∷ 0x65 ∷ []))))
    → name_text ((attribute 3 (Directory (BmpString (1 ∷ 0x52 ∷ 0 ∷ 0x75 ∷ 0 ∷ 0x76 ∷ 0 ∷ 0x72 ∷ 0 ∷ 0x65 ∷ []))) c ∷ []) ∷ []) ≡ codes "2.5.4.3=" ++ 0xC5 ∷ 0x92 ∷ codes "uvre"
unfolding dotted_text digits utf16_chars encode_utf8
name_text-two_octets c = refl
