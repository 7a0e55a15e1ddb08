-- The one form of signed data (RFC 5652, sections 5 and 11): SHA-256, and as signed attributes the content's type and digest.
use Rattle.std.specs.Prelude.{◌≡◌, ℕ, ◌==◌, Bool, ◌&&◌, List, [], ◌∷◌, refl}
use Rattle.std.specs.Bool.{nat_eq}
use Rattle.std.specs.Cmp.Lexicographic.{pointwise}
use Rattle.asn1_leaves.specs.ObjectIdentifier.{oid_content, subidentifier}
use Rattle.picky_asn1.specs.declared.wrapper.ObjectIdentifierAsn1.{ObjectIdentifierAsn1}
use Rattle.x509_oids.specs.Identifiers as oids
use Rattle.x509_fields.specs.RawParameters.{is_null}
use Rattle.x509_fields.specs.declared.raw_algorithm_identifier.RawAlgorithmIdentifier.{RawAlgorithmIdentifier}
use Rattle.cms_signed_data.specs.declared.content_info.ContentInfo.{ContentInfo}
use Rattle.cms_signed_data.specs.declared.signed_attributes.SignedAttributes.{SignedAttributes}
use Rattle.cms_signed_data.specs.declared.signed_data.SignedData.{SignedData}
use Rattle.cms_signed_data.specs.declared.signer_info.SignerInfo.{SignerInfo}

-- content octets of id-signedData (RFC 5652, section 5.1), id-contentType (11.1), id-messageDigest (11.2), and of id-sha256
-- (RFC 5754, section 2.2)
abbrev pub signed_data_id : List ℕ
signed_data_id = 0x2A ∷ 0x86 ∷ 0x48 ∷ 0x86 ∷ 0xF7 ∷ 0x0D ∷ 1 ∷ 7 ∷ 2 ∷ []

abbrev pub content_type_id : List ℕ
content_type_id = 0x2A ∷ 0x86 ∷ 0x48 ∷ 0x86 ∷ 0xF7 ∷ 0x0D ∷ 1 ∷ 9 ∷ 3 ∷ []

abbrev pub message_digest_id : List ℕ
message_digest_id = 0x2A ∷ 0x86 ∷ 0x48 ∷ 0x86 ∷ 0xF7 ∷ 0x0D ∷ 1 ∷ 9 ∷ 4 ∷ []

abbrev pub sha256_id : List ℕ
sha256_id = 0x60 ∷ 0x86 ∷ 0x48 ∷ 1 ∷ 0x65 ∷ 3 ∷ 4 ∷ 2 ∷ 1 ∷ []

-- they are those of the identifiers by their arcs
pub signed_data_id-is : oid_content oids.signed_data ≡ signed_data_id
unfolding oid_content subidentifier
signed_data_id-is = refl

pub content_type_id-is : oid_content oids.content_type ≡ content_type_id
unfolding oid_content subidentifier
content_type_id-is = refl

pub message_digest_id-is : oid_content oids.message_digest ≡ message_digest_id
unfolding oid_content subidentifier
message_digest_id-is = refl

pub sha256_id-is : oid_content oids.sha256 ≡ sha256_id
unfolding oid_content subidentifier
sha256_id-is = refl

abbrev pub is_id : ObjectIdentifierAsn1 → List ℕ → Bool
is_id oid content = pointwise nat_eq (oid_content oid.0) content

-- In what is read, SHA-256 has the parameters NULL or none: others are refused (RFC 5754, section 2).
-- Test: `good: digest parameters missing`, `digest identifier with octets as parameters`.
unfoldable pub is_sha256 : RawAlgorithmIdentifier → Bool
is_sha256 algorithm = is_id algorithm.algorithm sha256_id && is_null algorithm.parameters.0

-- The signed attributes are content-type, which is the eContentType, and then message-digest (RFC 5652, sections 5.3, 11.1 and 11.2).
-- Test: `fault: attributes exchanged`, `fault: content type attribute differs`.
unfoldable pub are_attributes : ObjectIdentifierAsn1 → SignedAttributes → Bool
are_attributes content_type attributes =
    is_id attributes.content_type.ty content_type_id
    && (is_id attributes.message_digest.ty message_digest_id && pointwise nat_eq attributes.content_type.values.0.0 content_type.0)

-- The SignerInfo has version 1, and its digestAlgorithm is SHA-256 (RFC 5652, section 5.3).
-- Test: `fault: signer version 3`, `fault: signer's digest SHA-384`.
unfoldable pub is_signer : ObjectIdentifierAsn1 → SignerInfo → Bool
is_signer content_type signer =
    (signer.version == 1) && (is_sha256 signer.digest_algorithm && are_attributes content_type signer.signed_attributes)

-- SignedData has version 3, and its digestAlgorithm is SHA-256 (RFC 5652, section 5.1). Test: `fault: version 1`, `fault: digest SHA-384`.
unfoldable pub is_signed : SignedData → Bool
is_signed signed =
    (signed.version == 3) && (is_sha256 signed.digest_algorithms.0 && is_signer signed.encap_content_info.content_type signed.signer_infos.0)

-- The contentType of ContentInfo is id-signedData (RFC 5652, sections 3 and 5.1).
-- Test: `fault: outer type data`, `fault: outer type enveloped`.
unfoldable pub has_form : ContentInfo → Bool
has_form info = is_id info.content_type signed_data_id && is_signed info.content.0
