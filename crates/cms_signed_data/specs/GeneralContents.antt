-- Signed data of the general form, and what is judged of it (RFC 5652, section 5).
use Rattle.std.specs.Prelude.{◌≡◌, Some}
use Rattle.asn1_der.specs.Octets.{context_0_octet, sequence_octet}
use Rattle.asn1_der.specs.Tagged.{tagged_tree}
use Rattle.asn1_der.specs.Tree.{Tree, Writes, der}
use Rattle.picky_asn1.specs.Bytes.{Bytes}
use Rattle.cms_signed_data.specs.declared.general_form.digest_algorithm.DigestAlgorithm.{DigestAlgorithm}
use Rattle.cms_signed_data.specs.GeneralForm.{held_in}
use Rattle.cms_signed_data.specs.contracts.general_form.attributes.GeneralAttributesTagged.TheImpl as attributes_impl
use Rattle.cms_signed_data.specs.contracts.general_form.general_info.GeneralInfoTagged.TheImpl as info_impl
use Rattle.cms_signed_data.specs.declared.general_form.attributes.GeneralAttributes.{GeneralAttributes}
use Rattle.cms_signed_data.specs.declared.general_form.general_info.GeneralInfo.{GeneralInfo}

abbrev pub general_tree : GeneralInfo → Tree
general_tree = tagged_tree sequence_octet info_impl.ghosts.row_tree info_impl.ghosts.row_of

-- the bytes are the one DER encoding of this ContentInfo
unfoldable pub IsGeneralInfo : Bytes → GeneralInfo → Type 0
IsGeneralInfo bytes info = Writes general_tree info bytes

-- the DER of signed attributes under their tag [0], which is how they are in the input (RFC 5652, section 5.3)
unfoldable pub attributes_der : GeneralAttributes → Bytes
attributes_der attributes = der (tagged_tree context_0_octet attributes_impl.ghosts.row_tree attributes_impl.ghosts.row_of attributes)

abbrev pub attributes_bytes : GeneralInfo → Bytes
attributes_bytes info = attributes_der info.content.0.signer_infos.0.signed_attributes

-- the octets of eContent (RFC 5652, section 5.2)
abbrev pub content_of : GeneralInfo → Bytes
content_of info = info.content.0.encap_content_info.content.0

-- the octets of the signature (RFC 5652, section 5.3)
abbrev pub signature_of : GeneralInfo → Bytes
signature_of info = info.content.0.signer_infos.0.signature

-- signed data, with its digest algorithm and the octets of its digest
pub record GeneralParts : Type 0 where
  pub info : GeneralInfo
  pub algorithm : DigestAlgorithm
  pub digest : Bytes

-- The bytes are the one DER encoding of this signed data, which is of the general form. Certificates, sid and signatureAlgorithm are whole
-- elements in it (RFC 5652, section 5). Test: `certificate with a deviation`.
-- Not judged: digestAlgorithms (RFC 5652, section 5.1). Test: `no digest algorithms`.
pub record IsGeneralContent (bytes : Bytes) (parts : GeneralParts) : Type 0 where
  pub spelled : IsGeneralInfo bytes parts.info
  pub held : held_in parts.info ≡ Some (parts.algorithm, parts.digest)
