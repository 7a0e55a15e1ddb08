-- What a client signs to authenticate by certificate (RFC 4556, section 3.2.1).
use Rattle.std.specs.Prelude.{ℕ, None, Some, List, pos}
use Rattle.sha1.specs.Sha1.{sha1}
use Rattle.asn1_leaves.specs.declared.date.GeneralizedTime.{GeneralizedTime}
use Rattle.asn1_der.specs.Tree.{der}
use Rattle.picky_asn1_der.specs.Raw.{Raw}
use Rattle.picky_asn1.specs.Bytes.{Bytes}
use Rattle.x509_oids.specs.Identifiers as oids
use Rattle.krb_time.specs.Units.{Micros}
use Rattle.krb_messages.specs.declared.messages.kdc_req_body.KdcReqBody.{KdcReqBody}
use Rattle.krb_messages.specs.Bodies.{body_bytes}
use Rattle.pkinit_messages.specs.declared.auth_pack.AuthPack.{AuthPack}
use Rattle.pkinit_messages.specs.declared.pk_authenticator.PkAuthenticator.{PkAuthenticator}
use Rattle.pkinit_clients.specs.contracts.encoding.Asn1RawDerAuthPackTree.TheImpl as pack_impl

-- id-pkinit-authData, the type of an AuthPack as signed content
abbrev pub auth_data : List ℕ
auth_data = oids.pkinit_auth_data

-- PKAuthenticator has cusec and ctime of the client's time, the body's nonce, and as paChecksum the SHA-1 digest of the body (RFC 4556,
-- section 3.2.1). Test: `a@R for h, test`, `f@R for h, test` of `pkinit_steps.txt`.
abbrev pub authenticator_of : KdcReqBody → GeneralizedTime → Micros → PkAuthenticator
authenticator_of body second microsecond = record {
  cusec = record { 0 = pos microsecond };
  ctime = record { 0 = record { 0 = second } };
  nonce = record { 0 = body.nonce.0 };
  pa_checksum = record { 0 = Some (record { 0 = sha1 (body_bytes body) }) };
}

-- AuthPack has pkAuthenticator and clientPublicValue. It has neither supportedCMSTypes nor clientDHNonce (RFC 4556, section 3.2.1).
-- Test: `b@R for HTTP/www, public`, `a@R for h, test` of `pkinit_steps.txt`.
abbrev pub auth_pack_of : PkAuthenticator → Raw → AuthPack Raw
auth_pack_of authenticator value = record {
  pk_authenticator = record { 0 = authenticator };
  client_public_value = record { 0 = Some (record { 0 = value }) };
  supported_cms_types = record { 0 = None };
  client_dh_nonce = record { 0 = None };
}

-- The DER encoding of an AuthPack (RFC 4556, section 3.2.1).
unfoldable pub auth_pack_bytes : AuthPack Raw → Bytes
auth_pack_bytes pack = der (pack_impl.ghosts.pack_tree pack)
