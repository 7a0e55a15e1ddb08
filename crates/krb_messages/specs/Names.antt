-- Names of realms and principals (RFC 4120, sections 5.2.1, 5.2.2, 6.1, 6.2), which are the same by their characters, in the same
-- case, and never by their type.
use Rattle.std.specs.Prelude.{Bool, List}
use Rattle.std.specs.Bool.{nat_eq}
use Rattle.std.specs.Cmp.Lexicographic.{pointwise}
use Rattle.picky_asn1.specs.Bytes.{Bytes}
use Rattle.krb_messages.specs.declared.data_types.principal_name.PrincipalName.{PrincipalName}

-- Two realms are the same if their characters are, in the same case (RFC 4120, section 6.1).
abbrev pub is_same_realm : Bytes → Bytes → Bool
is_same_realm = pointwise nat_eq

-- the components of a name
abbrev pub components : PrincipalName → List Bytes
components name = name.name_string.0

-- Two names are the same if they have the same components in the same order (RFC 4120, section 6.2).
abbrev pub is_same_name : List Bytes → List Bytes → Bool
is_same_name = pointwise (pointwise nat_eq)
