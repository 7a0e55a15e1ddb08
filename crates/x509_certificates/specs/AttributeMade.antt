-- Attributes that were made of one value.
use Rattle.std.specs.Prelude.{◌≡◌, ℕ, List}
use Rattle.x509_certificates.specs.declared.attribute.Attribute.{Attribute}
use Rattle.x509_certificates.specs.declared.attribute_values.AttributeValues.{AttributeValues}

-- an attribute of this identifier and these values
abbrev pub IsMade : List ℕ → AttributeValues → Attribute → Type 0
IsMade arcs value made = (made.ty.0 ≡ arcs) × (made.value ≡ value)
