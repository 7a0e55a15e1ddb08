-- Signed data of the one form, as signed data of the general form.
use Rattle.std.specs.Prelude.{◌≡◌, ℕ, [], ◌∷◌}
use Rattle.asn1_der.specs.Octets.{object_identifier_octet, octet_string_octet, sequence_octet}
use Rattle.asn1_der.specs.Tree.{der}
use Rattle.asn1_leaves.specs.ObjectIdentifier.{oid_content}
use Rattle.picky_asn1_der.specs.Raw.{Raw}
use Rattle.picky_asn1_der.specs.Splits.{raw_bytes}
use Rattle.x509_algorithms.specs.contracts.algorithm_identifier.AlgorithmIdentifierSpelled.TheImpl as algorithm_impl
use Rattle.cms_signed_data.specs.declared.general_form.digest_algorithm.DigestAlgorithm.TheVariants.{Sha256}
use Rattle.cms_signed_data.specs.SignedParts as one
use Rattle.cms_signed_data.specs.SignedParts.{SignedParts}
use Rattle.cms_signed_data.specs.Written.{id_tree}
use Rattle.cms_signed_data.specs.declared.signed_attributes.SignedAttributes.{SignedAttributes}
use Rattle.cms_signed_data.specs.declared.signer_info.IssuerAndSerialNumber.{IssuerAndSerialNumber}
use Rattle.cms_signed_data.specs.Identifiers.{id_content}
use Rattle.cms_signed_data.specs.GeneralContents.{GeneralParts, attributes_bytes, signature_of}
use Rattle.cms_signed_data.specs.declared.general_form.attributes.GeneralAttributes.{GeneralAttributes}

-- Both have the same content, digest, signed attributes and signature. The general one holds certificate, sid and signatureAlgorithm as
-- elements, which are the bytes of the one form's.
pub record IsSameData (parts : SignedParts) (general : GeneralParts) : Type 0 where
  pub encapsulated : general.info.content.0.encap_content_info ≡ parts.info.content.0.encap_content_info
  pub algorithm : general.algorithm ≡ Sha256
  pub digest : general.digest ≡ one.digest_of parts.info
  pub attributes : attributes_bytes general.info ≡ parts.signed_attributes
  pub signature : signature_of general.info ≡ one.signature_of parts.info
  pub certificates : (raw : Raw) × (general.info.content.0.certificates.0 ≡ raw ∷ []) × (raw_bytes raw ≡ parts.certificate)
  pub sid : raw_bytes general.info.content.0.signer_infos.0.sid ≡ der (id_tree parts.info.content.0.signer_infos.0.sid)
  pub signature_algorithm : (n : ℕ) × algorithm_impl.ghosts.spells parts.info.content.0.signer_infos.0.signature_algorithm (raw_bytes general.info.content.0.signer_infos.0.signature_algorithm) n

-- the sid as an element
abbrev pub sid_element : IssuerAndSerialNumber → Raw
sid_element sid = record { first = sequence_octet; content = id_content sid }

-- the two signed attributes, as attributes with values of any type
abbrev pub attributes_general : SignedAttributes → GeneralAttributes
attributes_general attributes = record {
  0 =
      record { ty = attributes.content_type.ty; values = record { first = object_identifier_octet; content = oid_content attributes.content_type.values.0.0 } ∷ [] }
      ∷ record { ty = attributes.message_digest.ty; values = record { first = octet_string_octet; content = attributes.message_digest.values.0 } ∷ [] } ∷ [];
}
