-- Attributes that were made of a string or an address.
use Rattle.std.specs.Prelude.{◌≡◌, ℕ, List}
use Rattle.x509_oids.specs.Identifiers as oids
use Rattle.x509_fields.specs.declared.directory_string.DirectoryString.{DirectoryString}
use Rattle.x509_fields.specs.declared.name_attr.NameAttr.{NameAttr}
use Rattle.x509_fields.specs.declared.attribute_type_and_value.AttributeValue.TheVariants.{Directory, Email}
use Rattle.x509_fields.specs.declared.attribute_type_and_value.AttributeTypeAndValue.{AttributeTypeAndValue}
use Rattle.x509_fields.specs.NameAttrs.{attribute_arcs}

-- it has this attribute's identifier, and this value
abbrev pub IsOfAttribute : NameAttr → DirectoryString → AttributeTypeAndValue → Type 0
IsOfAttribute name string made = (made.ty.0 ≡ attribute_arcs name) × (made.value ≡ Directory string)

-- it is emailAddress, with this value
abbrev pub IsOfAddress : List ℕ → AttributeTypeAndValue → Type 0
IsOfAddress address made = (made.ty.0 ≡ oids.email_address) × (made.value ≡ Email address)
