-- Signed data with two of its parts as bytes.
use Rattle.std.specs.Prelude.{ℕ, List}
use Rattle.asn1_der.specs.Tree.{Tree}
use Rattle.asn1_der.specs.Tagged.{tagged_tree}
use Rattle.cms_signed_data.specs.contracts.signed_attributes.SignedAttributesTagged.TheImpl as attributes_impl
use Rattle.cms_signed_data.specs.declared.content_info.ContentInfo.{ContentInfo}
use Rattle.cms_signed_data.specs.declared.signed_attributes.SignedAttributes.{SignedAttributes}
use Rattle.asn1_der.specs.Octets.{context_0_octet}

-- Signed data, with the octets of its certificate and of its signed attributes as they are in the input (RFC 5652, section 5).
pub record SignedParts : Type 0 where
  pub info : ContentInfo
  pub certificate : List ℕ
  pub signed_attributes : List ℕ

-- The octets of eContent (RFC 5652, section 5.2).
abbrev pub content_of : ContentInfo → List ℕ
content_of info = info.content.0.encap_content_info.content.0

-- The digest of the content, as the attribute message-digest has it (RFC 5652, section 11.2).
abbrev pub digest_of : ContentInfo → List ℕ
digest_of info = info.content.0.signer_infos.0.signed_attributes.message_digest.values.0

-- The octets of the signature (RFC 5652, section 5.3).
abbrev pub signature_of : ContentInfo → List ℕ
signature_of info = info.content.0.signer_infos.0.signature

-- the signed attributes under their tag [0] (RFC 5652, section 5.3)
abbrev pub attributes_tree : SignedAttributes → Tree
attributes_tree = tagged_tree context_0_octet attributes_impl.ghosts.row_tree attributes_impl.ghosts.row_of
