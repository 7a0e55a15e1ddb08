use Rattle.std.proofs.Common.{ℕ, List, refl, sym, subst}
use Rattle.std.specs.Prelude.{not, ◌&&◌, IsTrue}
use Rattle.asn1_leaves.specs.ObjectIdentifier.{oid_content, subidentifier}
use Rattle.x509_oids.specs.Identifiers as oids
use Rattle.x509_keys.specs.KeyIdentifiers.{is_rsa, is_elliptic}
use Rattle.x509_keys.proofs.private_key_info.PrivateKeyInfo.new_ec_encryption.Goals as goal

elliptic_alone : IsTrue (not (is_rsa (oid_content oids.ec_public_key)) && is_elliptic (oid_content oids.ec_public_key))
unfolding oid_content subidentifier
elliptic_alone = refl

pub of_parts-requires : goal.of_parts-requires
of_parts-requires c =
    subst (λ (arcs : List ℕ). IsTrue (not (is_rsa (oid_content arcs)) && is_elliptic (oid_content arcs))) (sym c.in_ok-algorithm.ensures.0) elliptic_alone
