-- Two views are equal exactly where they lend one value.
use Rattle.std.proofs.Common.{sym}
use mathlib.Core.Bool.{true≢false}
use Rattle.std.specs.Bool.{Decides}
use Rattle.std.specs.Cmp.{signed_Decides}
use Rattle.std.specs.Cmp.Lexicographic.{bytes_decides, pointwise_decides}
use Rattle.x509_fields.specs.declared.attribute_parameters.AttributeTypeAndValueParameters.{AttributeTypeAndValueParameters}
use Rattle.x509_fields.specs.declared.attribute_parameters.AttributeTypeAndValueParameters.TheVariants as attribute
use Rattle.x509_fields.specs.contracts.attribute_parameters.AttributeTypeAndValueParametersPartialEq.TheImpl as attributes
use Rattle.x509_certificates.specs.declared.extension_view.ExtensionView.{ExtensionView}
use Rattle.x509_certificates.specs.declared.extension_view.ExtensionView.TheVariants as extension
use Rattle.x509_certificates.specs.contracts.extension_view.ExtensionViewPartialEq.TheImpl as extensions
use Rattle.equality_and_copies.specs.WrappedEquality.{octet_container}
use Rattle.equality_and_copies.specs.Views.{ShowOneAttribute, ShowOneExtension}
use Rattle.equality_and_copies.specs.contracts.equality.leaves.RawElementEquality.TheImpl.Laws.{is_equality-law as raw}
use Rattle.equality_and_copies.specs.contracts.equality.parts.DirectoryStringEquality.TheImpl.Laws.{is_equality-law as directory_string}
use Rattle.equality_and_copies.specs.contracts.equality.parts.BasicConstraintsEquality.TheImpl.Laws.{is_equality-law as basic_constraints}
use Rattle.equality_and_copies.specs.contracts.equality.names.GeneralNameEquality.TheImpl.Laws.{is_equality-law as general_name}
use Rattle.equality_and_copies.specs.contracts.equality.usages.KeyUsageEquality.TheImpl.Laws.{is_equality-law as key_usage}
use Rattle.equality_and_copies.specs.contracts.equality.usages.ExtendedKeyUsageEquality.TheImpl.Laws.{is_equality-law as extended_key_usage}
use Rattle.equality_and_copies.specs.contracts.equality.extensions.AuthorityKeyIdentifierEquality.TheImpl.Laws.{is_equality-law as authority}

pub attributes-decide : (v w : AttributeTypeAndValueParameters) → Decides (attributes.ghosts.eq v w) (ShowOneAttribute v w)
attributes-decide (attribute.CommonName v) (attribute.CommonName w) = directory_string v.now w.now
attributes-decide (attribute.Surname v) (attribute.Surname w) = directory_string v.now w.now
attributes-decide (attribute.SerialNumber v) (attribute.SerialNumber w) = directory_string v.now w.now
attributes-decide (attribute.CountryName v) (attribute.CountryName w) = directory_string v.now w.now
attributes-decide (attribute.LocalityName v) (attribute.LocalityName w) = directory_string v.now w.now
attributes-decide (attribute.StateOrProvinceName v) (attribute.StateOrProvinceName w) = directory_string v.now w.now
attributes-decide (attribute.StreetName v) (attribute.StreetName w) = directory_string v.now w.now
attributes-decide (attribute.OrganizationName v) (attribute.OrganizationName w) = directory_string v.now w.now
attributes-decide (attribute.OrganizationalUnitName v) (attribute.OrganizationalUnitName w) = directory_string v.now w.now
attributes-decide (attribute.EmailAddress v) (attribute.EmailAddress w) = bytes_decides v.now w.now
attributes-decide (attribute.GivenName v) (attribute.GivenName w) = directory_string v.now w.now
attributes-decide (attribute.Phone v) (attribute.Phone w) = directory_string v.now w.now
attributes-decide (attribute.Custom v) (attribute.Custom w) = raw v.now w.now
attributes-decide v w = (λ e. absurd (true≢false (sym e)), λ e. absurd e)

pub extensions-decide : (v w : ExtensionView) → Decides (extensions.ghosts.eq v w) (ShowOneExtension v w)
extensions-decide (extension.AuthorityKeyIdentifier v) (extension.AuthorityKeyIdentifier w) = authority v.now w.now
extensions-decide (extension.SubjectKeyIdentifier v) (extension.SubjectKeyIdentifier w) = bytes_decides v.now w.now
extensions-decide (extension.KeyUsage v) (extension.KeyUsage w) = key_usage v.now w.now
extensions-decide (extension.SubjectAltName v) (extension.SubjectAltName w) = pointwise_decides general_name v.now w.now
extensions-decide (extension.IssuerAltName v) (extension.IssuerAltName w) = pointwise_decides general_name v.now w.now
extensions-decide (extension.BasicConstraints v) (extension.BasicConstraints w) = basic_constraints v.now w.now
extensions-decide (extension.ExtendedKeyUsage v) (extension.ExtendedKeyUsage w) = extended_key_usage v.now w.now
extensions-decide (extension.Generic v) (extension.Generic w) = bytes_decides v.now w.now
extensions-decide (extension.CrlNumber v) (extension.CrlNumber w) = octet_container signed_Decides v.now w.now
extensions-decide v w = (λ e. absurd (true≢false (sym e)), λ e. absurd e)
