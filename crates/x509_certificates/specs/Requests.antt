-- Certification requests as rows of fields (RFC 2986, section 4).
use Rattle.std.proofs.Common.{◌≡◌, List, ap}
use Rattle.std.specs.Prelude.{⊤}
use Rattle.picky_asn1.specs.BitString.{Bits}
use Rattle.x509_algorithms.specs.declared.algorithm_identifier.AlgorithmIdentifier.{AlgorithmIdentifier}
use Rattle.x509_certificates.specs.declared.open_ssl_attributes.OpenSslAttributes.{OpenSslAttributes}
use Rattle.x509_spelling.specs.declared.fixed_number.FixedNumber.{FixedNumber}
use Rattle.x509_spelling.specs.declared.strict.Strict.{Strict}
use Rattle.x509_keys.specs.declared.subject_public_key_info.SubjectPublicKeyInfo.{SubjectPublicKeyInfo}
use Rattle.x509_fields.specs.declared.attribute_type_and_value.AttributeTypeAndValue.{AttributeTypeAndValue}
use Rattle.x509_spelling.specs.declared.implied.Implied.{Implied}
use Rattle.x509_certificates.specs.declared.certification_request.CertificationRequest.{CertificationRequest}
use Rattle.x509_certificates.specs.declared.certification_request_info.CertificationRequestInfo.{CertificationRequestInfo}

abbrev pub InfoRow : Type 0
InfoRow = Strict (FixedNumber 0) × (List (List AttributeTypeAndValue) × (SubjectPublicKeyInfo × (Implied OpenSslAttributes × ⊤)))

-- the fields of a CertificationRequestInfo as its row (RFC 2986, section 4.1)
abbrev pub info_row : CertificationRequestInfo → InfoRow
info_row v = (record { 0 = v.version }, (v.subject, (v.subject_public_key_info, (record { 0 = v.attributes }, tt))))

pub one_info : (v w : CertificationRequestInfo) → info_row v ≡ info_row w → v ≡ w
one_info v w e =
    ap (λ (f : InfoRow). record { version = f.0.0; subject = f.1.0; subject_public_key_info = f.1.1.0; attributes = f.1.1.1.0.0 }) e

abbrev pub RequestRow : Type 0
RequestRow = CertificationRequestInfo × (AlgorithmIdentifier × (Bits × ⊤))

-- the fields of a CertificationRequest as its row (RFC 2986, section 4.2)
abbrev pub request_row : CertificationRequest → RequestRow
request_row v = (v.certification_request_info, (v.signature_algorithm, (v.signature, tt)))

pub one_request : (v w : CertificationRequest) → request_row v ≡ request_row w → v ≡ w
one_request v w e =
    ap (λ (f : RequestRow). record { certification_request_info = f.0; signature_algorithm = f.1.0; signature = f.1.1.0 }) e
