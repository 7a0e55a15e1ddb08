-- What a program holds can be written.
use Rattle.std.proofs.Common.{ℕ, List}
use Rattle.asn1_leaves.specs.ObjectIdentifier.{IsObjectIdentifier, is_object_identifier, oid_content}
use Rattle.asn1_der.specs.Tree.{leaf, IsWhole}
use Rattle.asn1_der.proofs.Leaf.{whole-leaf}
use Rattle.asn1_der.proofs.Spelling.{whole-wrapped}
use Rattle.x509_certificates.specs.contracts.certificate.CertificateSpelled.TheImpl as certificate
use Rattle.x509_certificates.specs.declared.certificate.Certificate.{Certificate}
use Rattle.cms_signed_data.specs.SignedParts.{attributes_tree}
use Rattle.cms_signed_data.specs.Written.{attributes_of, id_of, id_tree}

pub oid_whole : (arcs : List ℕ) → IsObjectIdentifier arcs → IsWhole (leaf (is_object_identifier arcs) 6 (oid_content arcs))
oid_whole arcs valid = whole-leaf (is_object_identifier arcs) 6 (oid_content arcs) valid

-- the signed attributes of a type that is one
pub attributes_whole : (content_type content : List ℕ) → IsObjectIdentifier content_type → IsWhole (attributes_tree (attributes_of content_type content))
attributes_whole content_type content valid = (
  (tt, (whole-wrapped 49 (leaf (is_object_identifier content_type) 6 (oid_content content_type)) (oid_whole content_type valid), tt)),
  ((tt, ((tt, tt), tt)), tt),
)

-- issuer and serial number of a certificate that is spelled somehow
pub id_whole : (value : Certificate) (bytes : List ℕ) (n : ℕ) → certificate.ghosts.spells value bytes n → IsWhole (id_tree (id_of value))
id_whole value bytes n s =
    let issued = s.1.3.1 in
    let serial = issued.1.4 in
    let issuer = serial.4.4 in
    (issuer.3.1.0.0, (serial.3.1.0.0, tt))
