-- An extension's value as it is borrowed, and extensions that were made of one.
use Rattle.std.specs.Prelude.{◌≡◌, ℕ, false, List}
use Rattle.x509_certificates.specs.declared.extension.Extension.{Extension}
use Rattle.x509_certificates.specs.declared.extension_value.ExtensionValue.{ExtensionValue}
use Rattle.x509_certificates.specs.declared.extension_value.ExtensionValue.TheVariants as kind
use Rattle.x509_certificates.specs.declared.extension_view.ExtensionView.{ExtensionView}
use Rattle.x509_certificates.specs.declared.extension_view.ExtensionView.TheVariants as view

-- the value, without the octet string around it
abbrev pub IsViewOf : ExtensionView → ExtensionValue → Type 0
IsViewOf (view.AuthorityKeyIdentifier lent) value = kind.AuthorityKeyIdentifier (record { 0 = lent.now }) ≡ value
IsViewOf (view.SubjectKeyIdentifier lent) value = kind.SubjectKeyIdentifier (record { 0 = lent.now }) ≡ value
IsViewOf (view.KeyUsage lent) value = kind.KeyUsage (record { 0 = lent.now }) ≡ value
IsViewOf (view.SubjectAltName lent) value = kind.SubjectAltName (record { 0 = lent.now }) ≡ value
IsViewOf (view.IssuerAltName lent) value = kind.IssuerAltName (record { 0 = lent.now }) ≡ value
IsViewOf (view.BasicConstraints lent) value = kind.BasicConstraints (record { 0 = lent.now }) ≡ value
IsViewOf (view.ExtendedKeyUsage lent) value = kind.ExtendedKeyUsage (record { 0 = lent.now }) ≡ value
IsViewOf (view.CrlNumber lent) value = kind.CrlNumber lent.now ≡ value
IsViewOf (view.Generic lent) value = kind.Generic lent.now ≡ value

-- an extension of this identifier and value that isn't critical
abbrev pub IsMade : List ℕ → ExtensionValue → Extension → Type 0
IsMade arcs value made = (made.extn_id.0 ≡ arcs) × (made.critical.0.0 ≡ false) × (made.extn_value ≡ value)
