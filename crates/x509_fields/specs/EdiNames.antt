-- The name of a partner of electronic data interchange (RFC 5280, section 4.2.1.6).
use Rattle.std.specs.Prelude.{Option, None, Some}
use Rattle.picky_asn1_der.specs.declared.wrapper.ExplicitContextTag.{ExplicitContextTag}
use Rattle.x509_fields.specs.declared.directory_string.DirectoryString.{DirectoryString}
use Rattle.x509_fields.specs.declared.edi_party_name.EdiPartyName.{EdiPartyName}

abbrev assigner : Option DirectoryString → Option (ExplicitContextTag 0 DirectoryString)
assigner None = None
assigner (Some name) = Some (record { 0 = name })

-- An EDIPartyName of a partyName and perhaps a nameAssigner (RFC 5280, section 4.2.1.6).
abbrev pub edi_name : DirectoryString → Option DirectoryString → EdiPartyName
edi_name party_name name_assigner = record { name_assigner = record { 0 = assigner name_assigner }; party_name = record { 0 = party_name } }
