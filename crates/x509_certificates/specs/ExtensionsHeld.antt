-- The first value of a kind among some extensions (RFC 5280, section 4.2.1).
use Rattle.std.specs.Prelude.{ℕ, List, [], ◌∷◌, Option, None, Some}
use Rattle.x509_certificates.specs.declared.authority_key_identifier.AuthorityKeyIdentifier.{AuthorityKeyIdentifier}
use Rattle.x509_certificates.specs.declared.extension.Extension.{Extension}
use Rattle.x509_certificates.specs.declared.extension_value.ExtensionValue.{ExtensionValue}
use Rattle.x509_certificates.specs.declared.extension_value.ExtensionValue.TheVariants as kind
use Rattle.x509_certificates.specs.declared.key_usage.KeyUsage.{KeyUsage}
use Rattle.x509_fields.specs.Parameters.{or_else}
use Rattle.x509_fields.specs.declared.general_name.GeneralName.{GeneralName}
use Rattle.x509_fields.specs.declared.basic_constraints.BasicConstraints.{BasicConstraints}

-- Where an extension is there twice, against RFC 5280, section 4.2, the first that has what is sought counts. Test:
-- `first of two subject alternative names is another`, `two subject alternative names, the principal in the second` of `trusted.txt`.
abbrev pub first_among : {T : Type 0} → (ExtensionValue → Option T) → List Extension → Option T
first_among held_by [] = None
first_among held_by (extension ∷ extensions) = or_else (held_by extension.extn_value) (first_among held_by extensions)

-- The value of an extension that is subjectKeyIdentifier (RFC 5280, section 4.2.1.2).
abbrev pub key_held : ExtensionValue → Option (List ℕ)
key_held (kind.SubjectKeyIdentifier held) = Some held.0
key_held other = None

-- The value of an extension that is authorityKeyIdentifier (RFC 5280, section 4.2.1.1).
abbrev pub authority_held : ExtensionValue → Option AuthorityKeyIdentifier
authority_held (kind.AuthorityKeyIdentifier held) = Some held.0
authority_held other = None

-- The value of an extension that is basicConstraints (RFC 5280, section 4.2.1.9).
abbrev pub constraints_held : ExtensionValue → Option BasicConstraints
constraints_held (kind.BasicConstraints held) = Some held.0
constraints_held other = None

-- The value of an extension that is keyUsage (RFC 5280, section 4.2.1.3).
abbrev pub usage_held : ExtensionValue → Option KeyUsage
usage_held (kind.KeyUsage held) = Some held.0
usage_held other = None

-- The value of an extension that is subjectAltName (RFC 5280, section 4.2.1.6).
abbrev pub subject_names_held : ExtensionValue → Option (List GeneralName)
subject_names_held (kind.SubjectAltName held) = Some held.0
subject_names_held other = None
