-- METHOD-DATA and ETYPE-INFO2 (RFC 4120, sections 5.2.7, 5.2.7.5), each with its one encoding.
use Rattle.std.specs.Prelude.{List}
use Rattle.std.proofs.Common.{sym, ◌∙◌}
use Rattle.picky_asn1.specs.Bytes.{Bytes}
use Rattle.asn1_der.specs.Tree.{Writes}
use Rattle.asn1_der.proofs.Elements.{element-content}
use Rattle.asn1_der.proofs.Rows.{many-injective}
use Rattle.asn1_der.specs.Octets.{sequence_octet}
use Rattle.decision_tables.specs.One.{IsSole}
use Rattle.krb_messages.specs.declared.data_types.etype_info2.EtypeInfo2Entry.{EtypeInfo2Entry}
use Rattle.krb_messages.specs.declared.data_types.pa_data.PaData.{PaData}
use Rattle.krb_messages.specs.Trees as held
use Rattle.krb_tickets.specs.MethodData.{key_info_tree, method_data_tree}

-- The bytes are the one encoding of this METHOD-DATA.
unfoldable pub IsMethodData : Bytes → List PaData → Type 0
IsMethodData bytes methods = Writes method_data_tree methods bytes

pub sole_method_data : (bytes : Bytes) → IsSole (IsMethodData bytes)
unfolding IsMethodData
sole_method_data bytes v w p q =
    many-injective PaData held.pa_data_tree held.pa_data-injective v w p.0 q.0 (element-content sequence_octet _ _ (sym p.1 ∙ q.1))

-- The bytes are the one encoding of this ETYPE-INFO2.
unfoldable pub IsEtypeInfo2 : Bytes → List EtypeInfo2Entry → Type 0
IsEtypeInfo2 bytes entries = Writes key_info_tree entries bytes

pub sole_etype_info2 : (bytes : Bytes) → IsSole (IsEtypeInfo2 bytes)
unfolding IsEtypeInfo2
sole_etype_info2 bytes v w p q =
    many-injective EtypeInfo2Entry held.etype_info2_entry_tree held.etype_info2_entry-injective v w p.0 q.0 (element-content sequence_octet _ _ (sym p.1 ∙ q.1))
