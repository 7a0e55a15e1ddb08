-- Signed data as rows of fields (RFC 5652, sections 3 and 5).
use Rattle.std.proofs.Common.{◌≡◌, ℕ, List, ap}
use Rattle.std.specs.Prelude.{⊤}
use Rattle.picky_asn1.specs.declared.wrapper.ObjectIdentifierAsn1.{ObjectIdentifierAsn1}
use Rattle.x509_algorithms.specs.declared.algorithm_identifier.AlgorithmIdentifier.{AlgorithmIdentifier}
use Rattle.x509_certificates.specs.declared.certificate.Certificate.{Certificate}
use Rattle.x509_spelling.specs.declared.enclosed.Explicit.{Explicit}
use Rattle.x509_fields.specs.declared.raw_algorithm_identifier.RawAlgorithmIdentifier.{RawAlgorithmIdentifier}
use Rattle.cms_signed_data.specs.declared.content_info.ContentInfo.{ContentInfo}
use Rattle.cms_signed_data.specs.declared.encapsulated_content_info.EncapsulatedContentInfo.{EncapsulatedContentInfo}
use Rattle.cms_signed_data.specs.declared.set_of_one.SetOfOne.{SetOfOne}
use Rattle.cms_signed_data.specs.declared.signed_attributes.SignedAttributes.{SignedAttributes}
use Rattle.cms_signed_data.specs.declared.signed_data.SignedData.{SignedData}
use Rattle.cms_signed_data.specs.declared.signer_info.IssuerAndSerialNumber.{IssuerAndSerialNumber}
use Rattle.cms_signed_data.specs.declared.signer_info.SignerInfo.{SignerInfo}

-- The sid is issuerAndSerialNumber. unsignedAttrs are refused, even if empty (RFC 5652, section 5.3).
-- Test: `fault: subject key identifier`, `fault: unsigned attributes empty`.
abbrev pub SignerRow : Type 0
SignerRow = ℕ × (IssuerAndSerialNumber × (RawAlgorithmIdentifier × (SignedAttributes × (AlgorithmIdentifier × (List ℕ × ⊤)))))

-- the fields of a SignerInfo as its row (RFC 5652, section 5.3)
abbrev pub signer_row : SignerInfo → SignerRow
signer_row v = (v.version, (v.sid, (v.digest_algorithm, (v.signed_attributes, (v.signature_algorithm, (v.signature, tt))))))

pub one_signer : (v w : SignerInfo) → signer_row v ≡ signer_row w → v ≡ w
one_signer v w e =
    ap (λ (f : SignerRow). record {
      version = f.0;
      sid = f.1.0;
      digest_algorithm = f.1.1.0;
      signed_attributes = f.1.1.1.0;
      signature_algorithm = f.1.1.1.1.0;
      signature = f.1.1.1.1.1.0;
    }) e

-- SignedData has one digest algorithm, one content, one certificate and one signer. crls are refused, even if empty (RFC 5652, section
-- 5.1). Test: `fault: two certificates`, `fault: two signers`, `fault: crls present and empty`.
abbrev pub SignedRow : Type 0
SignedRow = ℕ × (SetOfOne RawAlgorithmIdentifier × (EncapsulatedContentInfo × (Explicit 0 Certificate × (SetOfOne SignerInfo × ⊤))))

-- the fields of a SignedData as its row (RFC 5652, section 5.1)
abbrev pub signed_row : SignedData → SignedRow
signed_row v = (v.version, (v.digest_algorithms, (v.encap_content_info, (v.certificates, (v.signer_infos, tt)))))

pub one_signed : (v w : SignedData) → signed_row v ≡ signed_row w → v ≡ w
one_signed v w e =
    ap (λ (f : SignedRow). record {
      version = f.0;
      digest_algorithms = f.1.0;
      encap_content_info = f.1.1.0;
      certificates = f.1.1.1.0;
      signer_infos = f.1.1.1.1.0;
    }) e

abbrev pub ContentRow : Type 0
ContentRow = ObjectIdentifierAsn1 × (Explicit 0 SignedData × ⊤)

-- the fields of a ContentInfo as its row (RFC 5652, section 3)
abbrev pub content_row : ContentInfo → ContentRow
content_row v = (v.content_type, (v.content, tt))

pub one_content : (v w : ContentInfo) → content_row v ≡ content_row w → v ≡ w
one_content v w e = ap (λ (f : ContentRow). record { content_type = f.0; content = f.1.0 }) e
