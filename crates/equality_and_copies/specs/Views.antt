-- Views, which lend what they show. Two of them are equal wherever they lend one value, and needn't are at one place.
use Rattle.std.proofs.Common.{◌≡◌}
use Rattle.x509_fields.specs.declared.attribute_parameters.AttributeTypeAndValueParameters.{AttributeTypeAndValueParameters}
use Rattle.x509_fields.specs.declared.attribute_parameters.AttributeTypeAndValueParameters.TheVariants as attribute
use Rattle.x509_certificates.specs.declared.extension_view.ExtensionView.{ExtensionView}
use Rattle.x509_certificates.specs.declared.extension_view.ExtensionView.TheVariants as extension

-- both are values of one attribute, and lend one value
abbrev pub ShowOneAttribute : AttributeTypeAndValueParameters → AttributeTypeAndValueParameters → Type 0
ShowOneAttribute (attribute.CommonName v) (attribute.CommonName w) = v.now ≡ w.now
ShowOneAttribute (attribute.Surname v) (attribute.Surname w) = v.now ≡ w.now
ShowOneAttribute (attribute.SerialNumber v) (attribute.SerialNumber w) = v.now ≡ w.now
ShowOneAttribute (attribute.CountryName v) (attribute.CountryName w) = v.now ≡ w.now
ShowOneAttribute (attribute.LocalityName v) (attribute.LocalityName w) = v.now ≡ w.now
ShowOneAttribute (attribute.StateOrProvinceName v) (attribute.StateOrProvinceName w) = v.now ≡ w.now
ShowOneAttribute (attribute.StreetName v) (attribute.StreetName w) = v.now ≡ w.now
ShowOneAttribute (attribute.OrganizationName v) (attribute.OrganizationName w) = v.now ≡ w.now
ShowOneAttribute (attribute.OrganizationalUnitName v) (attribute.OrganizationalUnitName w) = v.now ≡ w.now
ShowOneAttribute (attribute.EmailAddress v) (attribute.EmailAddress w) = v.now ≡ w.now
ShowOneAttribute (attribute.GivenName v) (attribute.GivenName w) = v.now ≡ w.now
ShowOneAttribute (attribute.Phone v) (attribute.Phone w) = v.now ≡ w.now
ShowOneAttribute (attribute.Custom v) (attribute.Custom w) = v.now ≡ w.now
ShowOneAttribute v w = ⊥

-- both are values of one kind of extension, and lend one value
abbrev pub ShowOneExtension : ExtensionView → ExtensionView → Type 0
ShowOneExtension (extension.AuthorityKeyIdentifier v) (extension.AuthorityKeyIdentifier w) = v.now ≡ w.now
ShowOneExtension (extension.SubjectKeyIdentifier v) (extension.SubjectKeyIdentifier w) = v.now ≡ w.now
ShowOneExtension (extension.KeyUsage v) (extension.KeyUsage w) = v.now ≡ w.now
ShowOneExtension (extension.SubjectAltName v) (extension.SubjectAltName w) = v.now ≡ w.now
ShowOneExtension (extension.IssuerAltName v) (extension.IssuerAltName w) = v.now ≡ w.now
ShowOneExtension (extension.BasicConstraints v) (extension.BasicConstraints w) = v.now ≡ w.now
ShowOneExtension (extension.ExtendedKeyUsage v) (extension.ExtendedKeyUsage w) = v.now ≡ w.now
ShowOneExtension (extension.Generic v) (extension.Generic w) = v.now ≡ w.now
ShowOneExtension (extension.CrlNumber v) (extension.CrlNumber w) = v.now ≡ w.now
ShowOneExtension v w = ⊥
