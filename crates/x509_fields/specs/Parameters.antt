-- The value of an attribute as its identifier names it, and the first common name of a name (RFC 5280, section 4.1.2.4).
use Rattle.std.proofs.Common.{◌≡◌, ℕ, Bool, true, List, [], ◌∷◌, Option, None, Some}
use Rattle.asn1_leaves.specs.ObjectIdentifier.{oid_content}
use Rattle.x509_fields.specs.declared.directory_string.DirectoryString.{DirectoryString}
use Rattle.x509_fields.specs.declared.name_attr.NameAttr.{NameAttr}
use Rattle.x509_fields.specs.declared.name_attr.NameAttr.TheVariants as attribute
use Rattle.x509_fields.specs.declared.attribute_type_and_value.AttributeValue.{AttributeValue}
use Rattle.x509_fields.specs.declared.attribute_type_and_value.AttributeValue.TheVariants.{Directory, Email, Custom}
use Rattle.x509_fields.specs.declared.attribute_type_and_value.AttributeTypeAndValue.{AttributeTypeAndValue}
use Rattle.x509_fields.specs.declared.attribute_parameters.AttributeTypeAndValueParameters.{AttributeTypeAndValueParameters}
use Rattle.x509_fields.specs.declared.attribute_parameters.AttributeTypeAndValueParameters.TheVariants as view
use Rattle.x509_fields.specs.NameAttrs.{attribute_content, is_common_content}

-- a string that is borrowed as this attribute's value
abbrev pub IsStringView : AttributeTypeAndValueParameters → NameAttr → DirectoryString → Type 0
IsStringView (view.CommonName lent) name string = (name ≡ attribute.CommonName) × (lent.now ≡ string)
IsStringView (view.Surname lent) name string = (name ≡ attribute.Surname) × (lent.now ≡ string)
IsStringView (view.SerialNumber lent) name string = (name ≡ attribute.SerialNumber) × (lent.now ≡ string)
IsStringView (view.CountryName lent) name string = (name ≡ attribute.CountryName) × (lent.now ≡ string)
IsStringView (view.LocalityName lent) name string = (name ≡ attribute.LocalityName) × (lent.now ≡ string)
IsStringView (view.StateOrProvinceName lent) name string = (name ≡ attribute.StateOrProvinceName) × (lent.now ≡ string)
IsStringView (view.StreetName lent) name string = (name ≡ attribute.StreetName) × (lent.now ≡ string)
IsStringView (view.OrganizationName lent) name string = (name ≡ attribute.OrganizationName) × (lent.now ≡ string)
IsStringView (view.OrganizationalUnitName lent) name string = (name ≡ attribute.OrganizationalUnitName) × (lent.now ≡ string)
IsStringView (view.GivenName lent) name string = (name ≡ attribute.GivenName) × (lent.now ≡ string)
IsStringView (view.Phone lent) name string = (name ≡ attribute.Phone) × (lent.now ≡ string)
IsStringView (view.EmailAddress lent) name string = ⊥
IsStringView (view.Custom lent) name string = ⊥

abbrev pub IsViewOfValue : AttributeTypeAndValueParameters → List ℕ → AttributeValue → Type 0
IsViewOfValue lent arcs (Directory string) = (name : NameAttr) × (oid_content arcs ≡ attribute_content name) × IsStringView lent name string
IsViewOfValue (view.EmailAddress lent) arcs (Email address) = lent.now ≡ address
IsViewOfValue (view.Custom lent) arcs (Custom raw) = lent.now ≡ raw
IsViewOfValue lent arcs value = ⊥

-- the attribute's value, as its identifier names it
abbrev pub IsViewOf : AttributeTypeAndValueParameters → AttributeTypeAndValue → Type 0
IsViewOf lent v = IsViewOfValue lent v.ty.0 v.value

abbrev common_string : Bool → AttributeValue → Option DirectoryString
common_string true (Directory string) = Some string
common_string is value = None

-- the common name that an attribute is
abbrev pub common_name_of : AttributeTypeAndValue → Option DirectoryString
common_name_of v = common_string (is_common_content (oid_content v.ty.0)) v.value

abbrev pub or_else : {A : Type 0} → Option A → Option A → Option A
or_else None other = other
or_else (Some found) other = Some found

-- the first common name among attributes, and among their sets
abbrev pub common_name_among : List AttributeTypeAndValue → Option DirectoryString
common_name_among [] = None
common_name_among (v ∷ vs) = or_else (common_name_of v) (common_name_among vs)

-- The first commonName of a name, in the order of its sets (RFC 5280, section 4.1.2.4).
abbrev pub first_common_name : List (List AttributeTypeAndValue) → Option DirectoryString
first_common_name [] = None
first_common_name (set ∷ sets) = or_else (common_name_among set) (first_common_name sets)
