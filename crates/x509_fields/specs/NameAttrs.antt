-- The attributes that have a string of a name, as arcs behind id-at (X.520, section 6).
use Rattle.std.proofs.Common.{◌≡◌, ℕ, Bool, true, List, [], ◌∷◌, refl, ap, ◌∙◌}
use Rattle.std.specs.Prelude.{◌&&◌, ◌==◌, IsTrue}
use Rattle.std.specs.Bool.{nat_eq}
use Rattle.std.specs.Cmp.Lexicographic.{pointwise}
use Rattle.std.proofs.lemmas.Bool.{and_parts, eqb-true}
use Rattle.asn1_leaves.specs.ObjectIdentifier.{oid_content, subidentifier}
use Rattle.x509_fields.specs.declared.directory_string.DirectoryString.{DirectoryString}
use Rattle.x509_fields.specs.declared.name_attr.NameAttr.{NameAttr}
use Rattle.x509_fields.specs.declared.name_attr.NameAttr.TheVariants as attribute
use Rattle.x509_fields.specs.declared.attribute_type_and_value.AttributeValue.TheVariants.{Directory}
use Rattle.x509_fields.specs.Attributes.{is_string_content, is_string_attribute, is_directory_text, is_value_of}

abbrev pub attribute_number : NameAttr → ℕ
attribute_number attribute.CommonName = 3
attribute_number attribute.Surname = 4
attribute_number attribute.SerialNumber = 5
attribute_number attribute.CountryName = 6
attribute_number attribute.LocalityName = 7
attribute_number attribute.StateOrProvinceName = 8
attribute_number attribute.StreetName = 9
attribute_number attribute.OrganizationName = 10
attribute_number attribute.OrganizationalUnitName = 11
attribute_number attribute.GivenName = 42
attribute_number attribute.Phone = 20

-- The arcs of an attribute's object identifier: id-at (2.5.4) and its number (X.520, section 6).
abbrev pub attribute_arcs : NameAttr → List ℕ
attribute_arcs name = 2 ∷ 5 ∷ 4 ∷ attribute_number name ∷ []

-- the content octets of an attribute's object identifier: id-at and its number (X.690, section 8.19; X.520, section 6)
abbrev pub attribute_content : NameAttr → List ℕ
attribute_content name = 0x55 ∷ 4 ∷ attribute_number name ∷ []

pub attribute_content-is : (name : NameAttr) → oid_content (attribute_arcs name) ≡ attribute_content name
unfolding oid_content subidentifier
attribute_content-is attribute.CommonName = refl
attribute_content-is attribute.Surname = refl
attribute_content-is attribute.SerialNumber = refl
attribute_content-is attribute.CountryName = refl
attribute_content-is attribute.LocalityName = refl
attribute_content-is attribute.StateOrProvinceName = refl
attribute_content-is attribute.StreetName = refl
attribute_content-is attribute.OrganizationName = refl
attribute_content-is attribute.OrganizationalUnitName = refl
attribute_content-is attribute.GivenName = refl
attribute_content-is attribute.Phone = refl

pub string_content : (name : NameAttr) → is_string_content (oid_content (attribute_arcs name)) ≡ true
unfolding oid_content subidentifier
string_content attribute.CommonName = refl
string_content attribute.Surname = refl
string_content attribute.SerialNumber = refl
string_content attribute.CountryName = refl
string_content attribute.LocalityName = refl
string_content attribute.StateOrProvinceName = refl
string_content attribute.StreetName = refl
string_content attribute.OrganizationName = refl
string_content attribute.OrganizationalUnitName = refl
string_content attribute.GivenName = refl
string_content attribute.Phone = refl

both_true : (a b : Bool) → a ≡ true → b ≡ true → IsTrue (a && b)
both_true true true left right = refl
both_true Bool.false b left right = absurd (cc (left))
both_true true Bool.false left right = absurd (cc (right))

-- a string is a value of each of these attributes
pub string_value_of : (name : NameAttr) (string : DirectoryString) → IsTrue (is_directory_text string) → IsTrue (is_value_of (attribute_arcs name) (Directory string))
string_value_of name string text = both_true (is_string_content (oid_content (attribute_arcs name))) (is_directory_text string) (string_content name) text

-- the content octets of commonName
abbrev pub is_common_content : List ℕ → Bool
is_common_content content = pointwise nat_eq content (attribute_content attribute.CommonName)

-- the arc behind id-at
abbrev pub string_number : List ℕ → ℕ
string_number [] = 0
string_number (first ∷ []) = 0
string_number (first ∷ second ∷ []) = 0
string_number (first ∷ second ∷ number ∷ []) = number
string_number (first ∷ second ∷ number ∷ other ∷ octets) = 0

string_content_starts : (first second number : ℕ) → IsTrue (is_string_content (first ∷ second ∷ number ∷ [])) → (first ∷ second ∷ number ∷ []) ≡ 0x55 ∷ 4 ∷ number ∷ []
string_content_starts first second number told =
    let parts = and_parts (first == 0x55) ((second == 4) && is_string_attribute number) told in
    let rest = and_parts (second == 4) (is_string_attribute number) parts.1 in
    λ i. eqb-true first 0x55 parts.0 i ∷ eqb-true second 4 rest.0 i ∷ number ∷ []

-- such an attribute's content octets, by its arc
pub number_told : (content : List ℕ) (number : ℕ) → IsTrue (is_string_content content) → string_number content ≡ number → content ≡ 0x55 ∷ 4 ∷ number ∷ []
number_told [] number told same = absurd (cc (told))
number_told (first ∷ []) number told same = absurd (cc (told))
number_told (first ∷ second ∷ []) number told same = absurd (cc (told))
number_told (first ∷ second ∷ third ∷ []) number told same =
    string_content_starts first second third told ∙ ap (λ (n : ℕ). 0x55 ∷ 4 ∷ n ∷ []) same
number_told (first ∷ second ∷ third ∷ other ∷ octets) number told same = absurd (cc (told))
