-- Which certificate a signer names (RFC 5652, section 5.3).
use Rattle.std.specs.Prelude.{Bool, false, ◌==◌, ◌&&◌, ◌||◌, Option, None, Some, if◌then◌else◌}
use Rattle.std.specs.Bool.{nat_eq}
use Rattle.std.specs.Cmp.Lexicographic.{pointwise}
use Rattle.asn1_der.specs.Length.{element}
use Rattle.asn1_der.specs.Octets.{context_0_octet, octet_string_octet, sequence_octet}
use Rattle.asn1_der.specs.Tree.{Tree, Trees, absent, constructed, ders, none, primitive}
use Rattle.picky_asn1.specs.Bytes.{Bytes}
use Rattle.picky_asn1_der.specs.Raw.{Raw}
use Rattle.x509_certificates.specs.ExtensionsFields.{extensions_in}
use Rattle.x509_certificates.specs.ExtensionsHeld.{first_among, key_held}
use Rattle.x509_certificates.specs.declared.certificate.Certificate.{Certificate}
use Rattle.cms_signed_data.specs.Written.{id_of, id_tree}
use Rattle.cms_signed_data.specs.declared.signer_info.IssuerAndSerialNumber.{IssuerAndSerialNumber}
use Rattle.cms_signed_data.specs.declared.general_form.identifier.TheConstants.{KEY_ID}

-- what is inside of a constructed tree
abbrev pub inside : Tree → Trees
inside (primitive first content) = none
inside (constructed first parts) = parts
inside absent = none

-- the content octets of the DER of an IssuerAndSerialNumber (RFC 5652, section 10.2.4)
unfoldable pub id_content : IssuerAndSerialNumber → Bytes
id_content id = ders (inside (id_tree id))

-- The sid is the DER of the certificate's issuer and serialNumber (RFC 5652, section 10.2.4). Test: `other serial`, `other issuer` of
-- `general_form.txt`.
unfoldable pub names_by_serial : Raw → Certificate → Bool
names_by_serial sid certificate = (sid.first == sequence_octet) && pointwise nat_eq sid.content (id_content (id_of certificate))

-- The sid is the key identifier under the implicit tag [0] (RFC 5652, section 5.3). Test: `key identifier`,
-- `other key identifier` of `general_form.txt`.
-- Or it is under an explicit tag [0], as Heimdal and Samba write it. Test: `key identifier of Heimdal`.
unfoldable pub is_key_id : Raw → Bytes → Bool
is_key_id sid key_id =
    if sid.first == KEY_ID then pointwise nat_eq sid.content key_id
    else if sid.first == context_0_octet then pointwise nat_eq sid.content (element octet_string_octet key_id)
    else false

abbrev pub names_by_key : Raw → Option Bytes → Bool
names_by_key sid None = false
names_by_key sid (Some key_id) = is_key_id sid key_id

-- The certificate's own extension subjectKeyIdentifier (RFC 5280, section 4.2.1.2): a certificate without it is named by its serialNumber
-- alone. Test: `key identifier of a certificate without`.
abbrev pub key_id_of : Certificate → Option Bytes
key_id_of certificate = first_among key_held (extensions_in certificate.tbs_certificate.extensions.tagged.0)

-- the signer's identifier names the certificate
abbrev pub names : Raw → Certificate → Bool
names sid certificate = names_by_serial sid certificate || names_by_key sid (key_id_of certificate)
