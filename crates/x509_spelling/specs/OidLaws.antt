-- An object identifier is spelled in one way.
use Rattle.std.proofs.Common.{true}
use Rattle.asn1_der.specs.Tree.{Tree}
use Rattle.asn1_der.specs.Firsts.{only}
use Rattle.asn1_der.specs.Tagged.{leaf_as, tagged_tree}
use Rattle.asn1_der.proofs.Tagged.{TagLaws, leaf_laws, tagged-injective}
use Rattle.picky_asn1.specs.declared.wrapper.ObjectIdentifierAsn1.{ObjectIdentifierAsn1}
use Rattle.picky_asn1.specs.contracts.encoding.oid.ObjectIdentifierAsn1Leaf.TheImpl as oid_leaf
use Rattle.x509_spelling.specs.Spellings.{IsExact}
use Rattle.x509_spelling.specs.Laws.{SpellingLaws, exact_laws}
use Rattle.asn1_der.specs.Octets.{object_identifier_octet}

abbrev pub oid_tree : ObjectIdentifierAsn1 → Tree
oid_tree = tagged_tree object_identifier_octet (leaf_as oid_leaf.ghosts.is_valid oid_leaf.ghosts.content_of) (λ v. v)

oid_tag_laws : TagLaws (leaf_as oid_leaf.ghosts.is_valid oid_leaf.ghosts.content_of)
oid_tag_laws = leaf_laws oid_leaf.ghosts.is_valid oid_leaf.ghosts.content_of oid_leaf.ghosts.one_content

pub oid_laws : SpellingLaws true (only object_identifier_octet) oid_tree (IsExact oid_tree)
oid_laws =
    exact_laws (only object_identifier_octet) oid_tree (λ v. oid_tag_laws.begins object_identifier_octet v)
    (tagged-injective object_identifier_octet (leaf_as oid_leaf.ghosts.is_valid oid_leaf.ghosts.content_of) oid_tag_laws (λ v. v) (λ v w e. e))
