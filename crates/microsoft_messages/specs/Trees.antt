-- The tree of a message to a proxy of KDCs (MS-KKDCP, section 2.2.2).
use Rattle.asn1_der.specs.Tree.{Tree}
use Rattle.asn1_der.specs.Tagged.{tagged_tree}
use Rattle.microsoft_messages.specs.declared.kdc_proxy_message.KdcProxyMessage.{KdcProxyMessage}
use Rattle.microsoft_messages.specs.contracts.kdc_proxy_message.KdcProxyMessageTagged.TheImpl as kdc_proxy_message_impl
use Rattle.asn1_der.specs.Octets.{sequence_octet}

-- KDC-PROXY-MESSAGE as a tree (MS-KKDCP, section 2.2.2).
abbrev pub kdc_proxy_message_tree : KdcProxyMessage → Tree
kdc_proxy_message_tree = tagged_tree sequence_octet kdc_proxy_message_impl.ghosts.row_tree kdc_proxy_message_impl.ghosts.row_of
