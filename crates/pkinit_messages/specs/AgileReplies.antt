-- PA-PK-AS-REP with a key derivation function (RFC 8636, section 6).
use Rattle.std.specs.Prelude.{None, Some}
use Rattle.asn1_der.specs.Octets.{context_0_octet, sequence_octet}
use Rattle.asn1_der.specs.Tagged.{tagged_tree}
use Rattle.asn1_der.specs.Tree.{der, wrapped}
use Rattle.picky_asn1.specs.Bytes.{Bytes}
use Rattle.pkinit_messages.specs.Kdfs.{kdf_arcs}
use Rattle.pkinit_messages.specs.declared.agility.kdf.Kdf.{Kdf}
use Rattle.pkinit_messages.specs.contracts.agility.dh_rep_info.AgileDhRepInfoTagged.TheImpl as info_impl
use Rattle.pkinit_messages.specs.declared.agility.dh_rep_info.AgileDhRepInfo.{AgileDhRepInfo}

-- DHRepInfo has dhSignedData and kdf. It has no serverDHNonce (RFC 4556, section 3.2.3.1; RFC 8636, section 6).
-- Test: `reply 0 2` of `agility.txt`.
abbrev pub agile_reply_of : Bytes → Kdf → AgileDhRepInfo
agile_reply_of signed kdf = record {
  dh_signed_data = record { 0 = signed };
  server_dh_nonce = record { 0 = None };
  kdf = record { 0 = Some (record { 0 = record { kdf_id = record { 0 = record { 0 = kdf_arcs kdf } } } }) };
}

-- the DER encoding of a PA-PK-AS-REP whose choice is dhInfo
unfoldable pub agile_reply_bytes : AgileDhRepInfo → Bytes
agile_reply_bytes info = der (wrapped context_0_octet (tagged_tree sequence_octet info_impl.ghosts.row_tree info_impl.ghosts.row_of info))
