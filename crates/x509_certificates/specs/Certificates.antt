-- Certificates as rows of fields (RFC 5280, section 4.1).
use Rattle.std.proofs.Common.{◌≡◌, ℤ, List, ap}
use Rattle.std.specs.Prelude.{⊤}
use Rattle.picky_asn1.specs.BitString.{Bits}
use Rattle.picky_asn1_der.specs.declared.default.DefaultField.{DefaultField}
use Rattle.x509_algorithms.specs.declared.algorithm_identifier.AlgorithmIdentifier.{AlgorithmIdentifier}
use Rattle.x509_keys.specs.declared.subject_public_key_info.SubjectPublicKeyInfo.{SubjectPublicKeyInfo}
use Rattle.x509_fields.specs.declared.attribute_type_and_value.AttributeTypeAndValue.{AttributeTypeAndValue}
use Rattle.x509_fields.specs.declared.validity.Validity.{Validity}
use Rattle.x509_certificates.specs.declared.certificate.Certificate.{Certificate}
use Rattle.x509_certificates.specs.declared.certificate_extensions.CertificateExtensions.{CertificateExtensions}
use Rattle.x509_certificates.specs.declared.tbs_certificate.TbsCertificate.{TbsCertificate}
use Rattle.x509_certificates.specs.declared.version_field.VersionField.{VersionField}

abbrev pub NameSets : Type 0
NameSets = List (List AttributeTypeAndValue)

-- A TBSCertificate ends with its extensions: issuerUniqueID and subjectUniqueID are refused (RFC 5280, section 4.1.2.8).
-- Test: `certificate with a unique identifier` of `read.txt`.
abbrev pub TbsRow : Type 0
TbsRow =
    DefaultField VersionField × (ℤ × (AlgorithmIdentifier × (NameSets × (Validity × (NameSets × (SubjectPublicKeyInfo × CertificateExtensions))))))

-- the fields of a TBSCertificate as its row (RFC 5280, section 4.1)
abbrev pub tbs_row : TbsCertificate → TbsRow
tbs_row v = (
  record { 0 = record { 0 = record { 0 = v.version } } },
  (v.serial_number, (v.signature, (v.issuer, (v.validity, (v.subject, (v.subject_public_key_info, v.extensions)))))),
)

pub one_tbs : (v w : TbsCertificate) → tbs_row v ≡ tbs_row w → v ≡ w
one_tbs v w e =
    ap (λ (f : TbsRow). record {
      version = f.0.0.0.0;
      serial_number = f.1.0;
      signature = f.1.1.0;
      issuer = f.1.1.1.0;
      validity = f.1.1.1.1.0;
      subject = f.1.1.1.1.1.0;
      subject_public_key_info = f.1.1.1.1.1.1.0;
      extensions = f.1.1.1.1.1.1.1;
    }) e

abbrev pub CertificateRow : Type 0
CertificateRow = TbsCertificate × (AlgorithmIdentifier × (Bits × ⊤))

-- the fields of a Certificate as its row (RFC 5280, section 4.1)
abbrev pub certificate_row : Certificate → CertificateRow
certificate_row v = (v.tbs_certificate, (v.signature_algorithm, (v.signature_value, tt)))

pub one_certificate : (v w : Certificate) → certificate_row v ≡ certificate_row w → v ≡ w
one_certificate v w e =
    ap (λ (f : CertificateRow). record { tbs_certificate = f.0; signature_algorithm = f.1.0; signature_value = f.1.1.0 }) e
