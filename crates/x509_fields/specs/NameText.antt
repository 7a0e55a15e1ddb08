-- The text of a name: its attributes in order, a comma between each two. An attribute is its identifier, `=` and its value.
use Rattle.std.specs.Prelude.{ℕ, List, ◌++◌, map, codes}
use Rattle.std.specs.List.{flat_map, join_with_byte}
use Rattle.asn1_der.specs.Length.{element}
use Rattle.asn1_leaves.specs.ObjectIdentifier.{dotted_text}
use Rattle.picky_asn1.specs.IntegerText.{hexadecimal}
use Rattle.picky_asn1_der.specs.Raw.{Raw}
use Rattle.x509_fields.specs.DirectoryStrings.{lossy_text}
use Rattle.x509_fields.specs.declared.attribute_type_and_value.AttributeValue.{AttributeValue}
use Rattle.x509_fields.specs.declared.attribute_type_and_value.AttributeValue.TheVariants.{Directory, Email, Custom}
use Rattle.x509_fields.specs.declared.attribute_type_and_value.AttributeTypeAndValue.{AttributeTypeAndValue}

-- an element in hexadecimal
abbrev pub element_text : Raw → List ℕ
element_text raw = flat_map hexadecimal (element raw.first raw.content)

-- the string or the address, and of any other type the element
abbrev pub value_text : AttributeValue → List ℕ
value_text (Directory string) = lossy_text string
value_text (Email address) = address
value_text (Custom raw) = element_text raw

abbrev pub attribute_text : AttributeTypeAndValue → List ℕ
attribute_text attribute = dotted_text attribute.ty.0 ++ codes "=" ++ value_text attribute.value

-- the attributes of all sets
abbrev pub attributes_of : List (List AttributeTypeAndValue) → List AttributeTypeAndValue
attributes_of sets = flat_map (λ set. set) sets

abbrev pub name_text : List (List AttributeTypeAndValue) → List ℕ
name_text sets = join_with_byte 44 (map attribute_text (attributes_of sets))

-- attributes with a comma before each
abbrev pub further_text : List AttributeTypeAndValue → List ℕ
further_text attributes = flat_map (λ attribute. codes "," ++ attribute_text attribute) attributes
