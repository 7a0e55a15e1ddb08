-- Signed content as it is written (RFC 5652, section 5): all but the certificate in DER.
use Rattle.std.specs.Prelude.{◌≡◌, ℕ, List, Option, None, Some}
use Rattle.sha2.specs.Sha256.{sha256}
use Rattle.asn1_der.specs.Tree.{Tree, der}
use Rattle.asn1_der.specs.Tagged.{tagged_tree}
use Rattle.picky_asn1_der.specs.Parts.{IsPart}
use Rattle.x509_certificates.specs.contracts.certificate.CertificateSpelled.TheImpl as certificate
use Rattle.x509_certificates.specs.declared.certificate.Certificate.{Certificate}
use Rattle.x509_oids.specs.Identifiers as oids
use Rattle.x509_fields.specs.RawParameters.{null}
use Rattle.x509_fields.specs.declared.raw_algorithm_identifier.RawAlgorithmIdentifier.{RawAlgorithmIdentifier}
use Rattle.x509_keys.specs.declared.functions.Signed.{Signed}
use Rattle.cms_signed_data.specs.contracts.content_info.ContentInfoSpelled.TheImpl as content_info
use Rattle.cms_signed_data.specs.contracts.signer_info.IssuerAndSerialNumberTagged.TheImpl as id_impl
use Rattle.cms_signed_data.specs.declared.content_info.ContentInfo.{ContentInfo}
use Rattle.cms_signed_data.specs.declared.encapsulated_content_info.EncapsulatedContentInfo.{EncapsulatedContentInfo}
use Rattle.cms_signed_data.specs.declared.signed_attributes.SignedAttributes.{SignedAttributes}
use Rattle.cms_signed_data.specs.declared.signed_data.SignedData.{SignedData}
use Rattle.cms_signed_data.specs.declared.signer_info.IssuerAndSerialNumber.{IssuerAndSerialNumber}
use Rattle.cms_signed_data.specs.declared.signer_info.SignerInfo.{SignerInfo}
use Rattle.cms_signed_data.specs.Parts.{certificate_place}
use Rattle.x509_codec.specs.Covered.{as_set}
use Rattle.cms_signed_data.specs.SignedParts.{attributes_tree}
use Rattle.asn1_der.specs.Octets.{sequence_octet}

-- The algorithm SHA-256 is written with the parameters NULL: one of the two forms that readers accept (RFC 5754, section 2).
abbrev pub sha256_algorithm : RawAlgorithmIdentifier
sha256_algorithm = record { algorithm = record { 0 = oids.sha256 }; parameters = record { 0 = null } }

-- The signed attributes are the eContentType, and the SHA-256 digest of the eContent octets in what is written (RFC 5652, section 5.4).
-- Test: `rsa` of `replay_crypto/data/openssl.txt`.
abbrev pub attributes_of : List ℕ → List ℕ → SignedAttributes
attributes_of content_type content = record {
  content_type = record { ty = record { 0 = oids.content_type }; values = record { 0 = record { 0 = content_type } } };
  message_digest = record { ty = record { 0 = oids.message_digest }; values = record { 0 = sha256 content } };
}

-- The bytes that the party signs: the signed attributes with the tag of a SET OF (RFC 5652, section 5.4).
abbrev pub signed_bytes : List ℕ → List ℕ → List ℕ
signed_bytes content_type content = as_set (der (attributes_tree (attributes_of content_type content)))

-- The issuer and serial number of a certificate (RFC 5652, section 10.2.4).
abbrev pub id_of : Certificate → IssuerAndSerialNumber
id_of value = record { issuer = value.tbs_certificate.issuer; serial_number = value.tbs_certificate.serial_number }

-- The DER tree of an IssuerAndSerialNumber (RFC 5652, section 10.2.4).
abbrev pub id_tree : IssuerAndSerialNumber → Tree
id_tree = tagged_tree sequence_octet id_impl.ghosts.row_tree id_impl.ghosts.row_of

-- The EncapsulatedContentInfo with this content type and content (RFC 5652, section 5.2).
abbrev pub encapsulated_of : List ℕ → List ℕ → EncapsulatedContentInfo
encapsulated_of content_type content = record { content_type = record { 0 = content_type }; content = record { 0 = content } }

-- The SignerInfo with this sid, these signed attributes and this signature. Its digest algorithm is SHA-256 (RFC 5652, section 5.3).
abbrev pub signer_of : IssuerAndSerialNumber → SignedAttributes → Signed → SignerInfo
signer_of id attributes signed = record {
  version = 1;
  sid = id;
  digest_algorithm = sha256_algorithm;
  signed_attributes = attributes;
  signature_algorithm = signed.algorithm;
  signature = signed.signature;
}

abbrev pub data_with : List ℕ → List ℕ → Certificate → SignerInfo → SignedData
data_with content_type content value signer = record {
  version = 3;
  digest_algorithms = record { 0 = sha256_algorithm };
  encap_content_info = encapsulated_of content_type content;
  certificates = record { 0 = value };
  signer_infos = record { 0 = signer };
}

abbrev pub info_with : List ℕ → List ℕ → Certificate → SignerInfo → ContentInfo
info_with content_type content value signer = record {
  content_type = record { 0 = oids.signed_data };
  content = record { 0 = data_with content_type content value signer };
}

abbrev pub info_of : List ℕ → List ℕ → Certificate → Signed → ContentInfo
info_of content_type content value signed =
    info_with content_type content value (signer_of (id_of value) (attributes_of content_type content) signed)

-- What is written is signed data of this type and content, and the party signed its signed attributes (RFC 5652, sections 5.1, 5.4).
-- Test: `certificate 0, 0 deviations in it` of `written.txt`.
-- What is written has the given bytes of the certificate unchanged, and nothing else in it deviates from DER (RFC 5652, section 5.1).
-- Test: `certificate 38, 7 deviations in it` of `written.txt`.
pub record IsWritten (sign : List ℕ → Option Signed) (content_type content given bytes : List ℕ) : Type 0 where
  pub value : Certificate
  pub count : ℕ
  pub signed : Signed
  pub certificate_spelled : certificate.ghosts.spells value given count
  pub signs : sign (signed_bytes content_type content) ≡ Some signed
  pub spelled : content_info.ghosts.spells (info_of content_type content value signed) bytes count
  pub certificate_at : IsPart bytes certificate_place given

-- Nothing is written where the given bytes are a certificate's and the party doesn't sign (RFC 5652, section 5.1). Test: `sign none`.
abbrev pub IsUnsigned : (List ℕ → Option Signed) → List ℕ → List ℕ → List ℕ → Type 0
IsUnsigned sign content_type content given =
    ((value : Certificate) × (count : ℕ) × certificate.ghosts.spells value given count) × (sign (signed_bytes content_type content) ≡ None)

-- Given bytes are refused that are no certificate (RFC 5280, section 4.1). Test: `certificate with 00 behind`, `certificate empty`.
abbrev pub IsNoCertificate : List ℕ → Type 0
IsNoCertificate given = (value : Certificate) (count : ℕ) → certificate.ghosts.spells value given count → ⊥
