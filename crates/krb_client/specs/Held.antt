-- The names that requests hold (RFC 4120, section 5.2.2).
use Rattle.std.specs.Prelude.{ℕ, List, pos}
use Rattle.picky_asn1.specs.Bytes.{Bytes}
use Rattle.krb_messages.specs.declared.data_types.principal_name.PrincipalName.{PrincipalName}

-- a name of a type (RFC 4120, section 6.2)
abbrev pub principal_name : ℕ → List Bytes → PrincipalName
principal_name kind components = record {
  name_type = record { 0 = pos kind };
  name_string = record { 0 = components };
}
