-- The reply key of a client that was authenticated by certificate.
use Rattle.std.specs.Prelude.{◌≡◌, Option, None, Some}
use Rattle.std.proofs.Common.{sym}
use Rattle.asn1_der.specs.Tree.{der}
use Rattle.picky_asn1.specs.Bytes.{Bytes}
use Rattle.krb_crypto.specs.AgreedKeys.{agreed_key}
use Rattle.krb_crypto.specs.declared.suite.CipherSuite.{CipherSuite}
use Rattle.krb_messages.specs.Messages.{IsAsReq, as_req_tree}
use Rattle.krb_messages.specs.declared.messages.kdc_req.KdcReq.{KdcReq}
use Rattle.krb_realm_accounts.specs.Account.{AccountRecord}
use Rattle.krb_tickets.specs.ReplyKeys.{ReplyKeyRecord, agreed_reply_key}
use Rattle.pkinit_messages.specs.Contexts.{ContextRecord}
use Rattle.pkinit_messages.specs.DerivedKeys.{derived_key}
use Rattle.pkinit_messages.specs.declared.agility.kdf.Kdf.{Kdf}
use Rattle.krb_kdc_exchanges.specs.Call.{CallRecord}
use Rattle.krb_kdc_exchanges.specs.PkinitCalls.{AgreedRecord}
use Rattle.krb_kdc_exchanges.specs.Requests.{body_of, client_of, service_of}

-- the one encoding of an AS request
unfoldable pub as_req_bytes : KdcReq → Bytes
as_req_bytes request = der (as_req_tree request)

-- the bytes of an AS request are this encoding
pub as_req_bytes-is : (bytes : Bytes) (request : KdcReq) → IsAsReq bytes request → as_req_bytes request ≡ bytes
unfolding as_req_bytes
as_req_bytes-is bytes request is = sym is.1

-- what a key is derived for: the realm, the names of the request, the request, and PA-PK-AS-REP (RFC 8636, section 6)
abbrev pub kdf_context : CallRecord → KdcReq → Bytes → ContextRecord
kdf_context call request reply = record {
  realm = call.realm;
  client = client_of (body_of request);
  service = service_of (body_of request);
  as_req = as_req_bytes request;
  pk_as_rep = reply;
}

-- The key that a shared secret gives. Where client and KDC agreed on a key derivation function, it is derived by that (RFC 8636, section
-- 6). Test: `kdf 18 2` of `agility.txt`.
-- Else it is made of the agreed secret alone, without clientDHNonce and serverDHNonce (RFC 4556, section 3.2.3.1). Test:
-- `granted a suite 18`, `granted, client nonce` of `pkinit_exchanges.txt`.
abbrev pub key_by : CipherSuite → Option Kdf → Bytes → ContextRecord → Bytes
key_by suite None secret context = agreed_key suite secret
key_by suite (Some kdf) secret context = derived_key suite kdf secret context

-- the reply key of what client and KDC agreed on
abbrev pub agreed_reply : CallRecord → AccountRecord → KdcReq → AgreedRecord → ReplyKeyRecord
agreed_reply call client request agreed =
    agreed_reply_key client.suite (key_by client.suite agreed.kdf agreed.secret (kdf_context call request agreed.reply)) agreed.reply
