use Rattle.std.proofs.Common.{ℕ, List, sym, subst}
use Rattle.std.specs.Prelude.{IsTrue}
use Rattle.asn1_leaves.specs.ObjectIdentifier.{oid_content}
use Rattle.x509_keys.specs.KeyIdentifiers.{is_rsa, rsa_told}
use Rattle.x509_keys.proofs.private_key_info.PrivateKeyInfo.new_rsa_encryption.Goals as goal

pub of_parts-requires : goal.of_parts-requires
of_parts-requires c = subst (λ (arcs : List ℕ). IsTrue (is_rsa (oid_content arcs))) (sym c.in_ok-algorithm.ensures.0) rsa_told
