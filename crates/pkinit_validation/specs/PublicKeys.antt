-- Public values of an agreement (RFC 4556, section 3.2.3.1; RFC 5280, section 4.1.2.7).
use Rattle.std.proofs.Common.{sym, ◌∙◌}
use Rattle.asn1_der.specs.Tree.{Writes, der}
use Rattle.asn1_der.specs.Tagged.{tagged_tree}
use Rattle.asn1_der.proofs.Tagged.{tagged-injective}
use Rattle.picky_asn1_der.specs.Raw.{Raw, raw_tree}
use Rattle.decision_tables.specs.One.{IsSole}
use Rattle.pkinit_validation.specs.declared.public_key.AgreementPublicKey.{AgreementPublicKey}
use Rattle.pkinit_validation.specs.contracts.public_key.AgreementPublicKeyTagged.TheImpl as key_impl
use Rattle.asn1_der.specs.Octets.{sequence_octet}

-- the element is the one encoding of the public key
unfoldable pub IsPublicKey : Raw → AgreementPublicKey → Type 0
IsPublicKey element key = Writes (tagged_tree sequence_octet key_impl.ghosts.row_tree key_impl.ghosts.row_of) key (der (raw_tree element))

pub sole_public_key : (element : Raw) → IsSole (IsPublicKey element)
unfolding IsPublicKey
sole_public_key element v w p q =
    tagged-injective sequence_octet key_impl.ghosts.row_tree key_impl.ghosts.row_laws key_impl.ghosts.row_of key_impl.ghosts.one_row v w p.0 q.0 (sym p.1 ∙ q.1)
