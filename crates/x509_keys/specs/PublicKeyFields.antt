-- The public key behind a private one, as a field and alone (RFC 5958, section 2).
use Rattle.std.specs.Prelude.{Option, None, Some}
use Rattle.asn1_codec.specs.declared.optional.Optional.{Optional}
use Rattle.picky_asn1.specs.BitString.{Bits}
use Rattle.picky_asn1_der.specs.declared.implicit_tag.ImplicitContextTag.{ImplicitContextTag}
use Rattle.x509_spelling.specs.declared.strict.Strict.{Strict}

abbrev pub PublicKeyField : Type 0
PublicKeyField = Optional (Option (Strict (ImplicitContextTag 1 Bits)))

-- The field publicKey of a OneAsymmetricKey, which holds this public key or is missing (RFC 5958, section 2).
abbrev pub field_of_key : Option Bits → PublicKeyField
field_of_key None = record { 0 = None }
field_of_key (Some key) = record { 0 = Some (record { 0 = record { 0 = key } }) }

abbrev held_key : Option (Strict (ImplicitContextTag 1 Bits)) → Option Bits
held_key None = None
held_key (Some held) = Some held.0.0

-- The public key that the field publicKey holds, where it is present (RFC 5958, section 2).
abbrev pub key_of_field : PublicKeyField → Option Bits
key_of_field field = held_key field.0
