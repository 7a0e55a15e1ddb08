-- OtherInfo, which binds a key to its request and its reply (RFC 8636, section 6).
use Rattle.std.specs.Prelude.{[], Option, None, Some, pos}
use Rattle.asn1_der.specs.Octets.{sequence_octet}
use Rattle.asn1_der.specs.Tagged.{tagged_tree}
use Rattle.asn1_der.specs.Tree.{der}
use Rattle.picky_asn1.specs.Bytes.{Bytes}
use Rattle.krb_crypto.specs.Suites.{cipher_number}
use Rattle.krb_crypto.specs.declared.suite.CipherSuite.{CipherSuite}
use Rattle.krb_messages.specs.declared.data_types.principal_name.PrincipalName.{PrincipalName}
use Rattle.pkinit_messages.specs.Contexts.{ContextRecord}
use Rattle.pkinit_messages.specs.Kdfs.{kdf_arcs}
use Rattle.pkinit_messages.specs.contracts.agility.other_info.OtherInfoTagged.TheImpl as info_impl
use Rattle.pkinit_messages.specs.contracts.agility.other_info.SuppPubInfoTagged.TheImpl as seen_impl
use Rattle.pkinit_messages.specs.contracts.agility.party_name.PartyNameTagged.TheImpl as party_impl
use Rattle.pkinit_messages.specs.declared.agility.kdf.Kdf.{Kdf}
use Rattle.pkinit_messages.specs.declared.agility.other_info.OtherInfo.{OtherInfo}
use Rattle.pkinit_messages.specs.declared.agility.other_info.SuppPubInfo.{SuppPubInfo}
use Rattle.pkinit_messages.specs.declared.agility.party_name.PartyName.{PartyName}

-- the DER encoding of a KRB5PrincipalName
unfoldable pub name_bytes : PartyName → Bytes
name_bytes name = der (tagged_tree sequence_octet party_impl.ghosts.row_tree party_impl.ghosts.row_of name)

-- partyUInfo and partyVInfo are KRB5PrincipalName of client and service, each with the realm and the request's name-type (RFC 8636,
-- section 6). Where a name is missing, which the KDC refuses before, they have no octets. Test: `kdf 18 2`.
abbrev pub party_bytes : Bytes → Option PrincipalName → Bytes
party_bytes realm None = []
party_bytes realm (Some name) = name_bytes (record { realm = record { 0 = realm }; principal_name = record { 0 = name } })

-- PkinitSuppPubInfo has the key's etype, the AS-REQ and the PA-PK-AS-REP (RFC 8636, section 6). Test: `kdf 17 1`.
abbrev pub supp_pub_info_of : CipherSuite → ContextRecord → SuppPubInfo
supp_pub_info_of suite context = record {
  enctype = record { 0 = pos (cipher_number suite) };
  as_req = record { 0 = context.as_req };
  pk_as_rep = record { 0 = context.pk_as_rep };
}

-- the DER encoding of a PkinitSuppPubInfo
unfoldable pub supp_pub_info_bytes : SuppPubInfo → Bytes
supp_pub_info_bytes info = der (tagged_tree sequence_octet seen_impl.ghosts.row_tree seen_impl.ghosts.row_of info)

-- algorithmID is the function's identifier without parameters. There is no suppPrivInfo (RFC 8636, section 6). Test: `kdf 20 3`.
abbrev pub other_info_of : CipherSuite → Kdf → ContextRecord → OtherInfo
other_info_of suite kdf context = record {
  algorithm_id = record { algorithm = record { 0 = kdf_arcs kdf } };
  party_u_info = record { 0 = party_bytes context.realm context.client };
  party_v_info = record { 0 = party_bytes context.realm context.service };
  supp_pub_info = record { 0 = supp_pub_info_bytes (supp_pub_info_of suite context) };
}

-- the DER encoding of an OtherInfo
unfoldable pub other_info_bytes : OtherInfo → Bytes
other_info_bytes info = der (tagged_tree sequence_octet info_impl.ghosts.row_tree info_impl.ghosts.row_of info)
