-- The general form of signed data (RFC 5652, sections 5 and 11): what its types leave open.
use Rattle.std.specs.Prelude.{◌≡◌, Bool, false, ◌==◌, ◌&&◌, ◌||◌, List, [], ◌∷◌, Option, None, Some, refl, if◌then◌else◌}
use Rattle.std.specs.Bool.{nat_eq}
use Rattle.std.specs.Borrow.{Bor}
use Rattle.std.specs.Cmp.Lexicographic.{pointwise}
use Rattle.std.specs.List.{list_any}
use Rattle.asn1_der.specs.Octets.{object_identifier_octet, octet_string_octet, sequence_octet}
use Rattle.asn1_leaves.specs.ObjectIdentifier.{oid_content, subidentifier}
use Rattle.picky_asn1.specs.Bytes.{Bytes}
use Rattle.picky_asn1_der.specs.Raw.{Raw}
use Rattle.x509_oids.specs.Identifiers as oids
use Rattle.cms_signed_data.specs.Digests.{digest_named}
use Rattle.cms_signed_data.specs.declared.general_form.digest_algorithm.DigestAlgorithm.{DigestAlgorithm}
use Rattle.cms_signed_data.specs.declared.general_form.attributes.GeneralAttribute.{GeneralAttribute}
use Rattle.cms_signed_data.specs.declared.general_form.form.TheConstants.{CONTENT_TYPE, MESSAGE_DIGEST, SIGNED_DATA}
use Rattle.cms_signed_data.specs.declared.general_form.general_info.GeneralInfo.{GeneralInfo}
use Rattle.cms_signed_data.specs.declared.general_form.general_signer.GeneralSigner.{GeneralSigner}

-- the constants have the content octets of id-signedData, id-contentType and id-messageDigest (RFC 5652, sections 5.1, 11.1 and 11.2)
pub signed_data-is : oid_content oids.signed_data ≡ SIGNED_DATA
unfolding oid_content subidentifier
signed_data-is = refl

pub content_type-is : oid_content oids.content_type ≡ CONTENT_TYPE
unfolding oid_content subidentifier
content_type-is = refl

pub message_digest-is : oid_content oids.message_digest ≡ MESSAGE_DIGEST
unfolding oid_content subidentifier
message_digest-is = refl

-- the attribute has this type
abbrev pub is_of_type : Bytes → GeneralAttribute → Bool
is_of_type ty attribute = pointwise nat_eq (oid_content attribute.ty.0) ty

-- the one value
abbrev pub only : List Raw → Option Raw
only [] = None
only (value ∷ []) = Some value
only (first ∷ second ∷ more) = None

-- the one value of an attribute, if none of the others has the type
abbrev pub sole_value : Bytes → GeneralAttribute → List GeneralAttribute → Option Raw
sole_value ty attribute others = if list_any (is_of_type ty) others then None else only attribute.values

-- The one value of the one attribute of this type: others are passed over, and there is none where the type is there twice (RFC 5652,
-- section 5.3). Test: `signing time first`, `content type twice`, `digest of two values` of `general_form.txt`.
abbrev pub sole_of : Bytes → List GeneralAttribute → Option Raw
sole_of ty [] = None
sole_of ty (attribute ∷ attributes) = if is_of_type ty attribute then sole_value ty attribute attributes else sole_of ty attributes

-- the octets of an OCTET STRING
abbrev pub octets_of : Raw → Option Bytes
octets_of value = if value.first == octet_string_octet then Some value.content else None

abbrev pub octets_in : Option Raw → Option Bytes
octets_in None = None
octets_in (Some value) = octets_of value

-- The octets of message-digest (RFC 5652, section 11.2). Test: `no digest`, `digest no OCTET STRING`.
unfoldable pub digest_in : GeneralInfo → Option Bytes
digest_in info = octets_in (sole_of MESSAGE_DIGEST info.content.0.signer_infos.0.signed_attributes.0)

abbrev pub is_identifier : Bytes → Option Raw → Bool
is_identifier oid None = false
is_identifier oid (Some value) = (value.first == object_identifier_octet) && pointwise nat_eq value.content oid

-- The attribute content-type is the eContentType (RFC 5652, sections 5.3 and 11.1). Test: `content type of replies`.
unfoldable pub has_type : GeneralInfo → Bool
has_type info =
    is_identifier (oid_content info.content.0.encap_content_info.content_type.0) (sole_of CONTENT_TYPE info.content.0.signer_infos.0.signed_attributes.0)

-- SignerInfo has version 1 by issuer and serial number (RFC 5652, section 5.3). Test: `version 3 by serial`.
-- By a subjectKeyIdentifier it has version 3, or 1 as Heimdal writes it (RFC 5652, section 5.3). Test: `key identifier`,
-- `key identifier of Heimdal`, `version 2 by key identifier` of `general_form.txt`.
unfoldable pub fits_version : GeneralSigner → Bool
fits_version signer = if signer.sid.first == sequence_octet then signer.version == 1 else (signer.version == 1) || (signer.version == 3)

-- The contentType of ContentInfo is id-signedData, and SignedData has version 3 (RFC 5652, sections 3 and 5.1).
-- Test: `outer type data`, `version 1 of SignedData` of `general_form.txt`.
unfoldable pub has_general_form : GeneralInfo → Bool
has_general_form info =
    pointwise nat_eq (oid_content info.content_type.0) SIGNED_DATA
    && ((info.content.0.version == 3) && (fits_version info.content.0.signer_infos.0 && has_type info))

abbrev pub both : Option DigestAlgorithm → Option Bytes → Option (DigestAlgorithm × Bytes)
both None digest = None
both (Some algorithm) None = None
both (Some algorithm) (Some digest) = Some (algorithm, digest)

-- The digest algorithm and the digest, of what is of the general form.
unfoldable pub held_in : GeneralInfo → Option (DigestAlgorithm × Bytes)
held_in info =
    if has_general_form info then both (digest_named info.content.0.signer_infos.0.digest_algorithm) (digest_in info) else None

-- what the program holds of it
abbrev pub as_held : DigestAlgorithm × Bor Bytes → DigestAlgorithm × Bytes
as_held held = (held.0, held.1.now)
