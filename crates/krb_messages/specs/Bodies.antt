-- The body of a request to a KDC (RFC 4120, section 5.4.1), as it is encoded.
use Rattle.asn1_der.specs.Tree.{der}
use Rattle.picky_asn1.specs.Bytes.{Bytes}
use Rattle.krb_messages.specs.MessageTrees.{kdc_req_body_tree}
use Rattle.krb_messages.specs.declared.messages.kdc_req_body.KdcReqBody.{KdcReqBody}

-- the one encoding of a request's body
unfoldable pub body_bytes : KdcReqBody → Bytes
body_bytes body = der (kdc_req_body_tree body)
