-- Why octets are the content of no value of a primitive type.
use Rattle.std.specs.Prelude.{ℕ, List, [], ◌∷◌}
use Rattle.asn1_der.specs.declared.error.Asn1DerError.{Asn1DerError}
use Rattle.asn1_der.specs.declared.error.Asn1DerError.TheVariants.{TruncatedData, InvalidData}

-- why octets aren't the content of a BOOLEAN (X.690, sections 8.2 and 11.1): there are none, or they aren't one octet that is 00 or FF
abbrev pub boolean_fault : List ℕ → Asn1DerError
boolean_fault [] = TruncatedData
boolean_fault (octet ∷ octets) = InvalidData
