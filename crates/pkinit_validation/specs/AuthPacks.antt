-- PA-PK-AS-REQ and AuthPack, and the fields of an AuthPack (RFC 4556, section 3.2.1).
use Rattle.std.specs.Prelude.{◌≡◌, Bool, false, List, Option, None, Some, refl}
use Rattle.std.specs.Bool.{nat_eq}
use Rattle.std.specs.Option.{option_map}
use Rattle.std.specs.Cmp.Lexicographic.{pointwise}
use Rattle.std.proofs.Common.{sym, ◌∙◌}
use Rattle.sha1.specs.Sha1.{sha1}
use Rattle.asn1_der.specs.Tree.{Writes}
use Rattle.asn1_der.specs.Tagged.{tagged_tree}
use Rattle.asn1_der.proofs.Tagged.{tagged-injective}
use Rattle.picky_asn1_der.specs.Raw.{Raw}
use Rattle.picky_asn1.specs.Bytes.{Bytes}
use Rattle.asn1_leaves.specs.GeneralizedTime.{seconds_of}
use Rattle.asn1_leaves.specs.ObjectIdentifier.{oid_content, subidentifier}
use Rattle.x509_oids.specs.Identifiers as oids
use Rattle.decision_tables.specs.One.{IsSole}
use Rattle.krb_time.specs.Times.{moment_at}
use Rattle.krb_time.specs.Units.{Micros}
use Rattle.krb_messages.specs.declared.messages.kdc_req_body.KdcReqBody.{KdcReqBody}
use Rattle.krb_messages.specs.Bodies.{body_bytes}
use Rattle.pkinit_messages.specs.declared.auth_pack.AuthPack.{AuthPack}
use Rattle.pkinit_messages.specs.declared.pa_pk_as_req.PaPkAsReq.{PaPkAsReq}
use Rattle.pkinit_messages.specs.contracts.pa_pk_as_req.PaPkAsReqTagged.TheImpl as request_impl
use Rattle.pkinit_validation.specs.contracts.auth_packs.Asn1RawDerAuthPackEncoding.TheImpl as pack_impl
use Rattle.pkinit_validation.specs.contracts.auth_packs.Asn1SequenceOfAsn1RawDerElementsEncoding.TheImpl as elements_impl
use Rattle.asn1_der.specs.Octets.{sequence_octet}
use Rattle.pkinit_validation.specs.declared.table.TheConstants.{AUTH_DATA}

-- the bytes are the one DER encoding of this PA-PK-AS-REQ
unfoldable pub IsPaPkAsReq : Bytes → PaPkAsReq → Type 0
IsPaPkAsReq bytes request = Writes (tagged_tree sequence_octet request_impl.ghosts.row_tree request_impl.ghosts.row_of) request bytes

pub sole_pa_pk_as_req : (bytes : Bytes) → IsSole (IsPaPkAsReq bytes)
unfolding IsPaPkAsReq
sole_pa_pk_as_req bytes v w p q =
    tagged-injective sequence_octet request_impl.ghosts.row_tree request_impl.ghosts.row_laws request_impl.ghosts.row_of request_impl.ghosts.one_row v w p.0 q.0 (sym p.1 ∙ q.1)

-- the bytes are the one DER encoding of this AuthPack, whose clientPublicValue is any element
unfoldable pub IsAuthPack : Bytes → AuthPack Raw → Type 0
IsAuthPack bytes pack = Writes pack_impl.ghosts.pack_tree pack bytes

pub sole_auth_pack : (bytes : Bytes) → IsSole (IsAuthPack bytes)
unfolding IsAuthPack
sole_auth_pack bytes v w p q = pack_impl.ghosts.pack_injective v w p.0 q.0 (sym p.1 ∙ q.1)

-- the bytes are the one DER encoding of a SEQUENCE of these elements
unfoldable pub AreElements : Bytes → List Raw → Type 0
AreElements bytes elements = Writes elements_impl.ghosts.elements_tree elements bytes

pub sole_elements : (bytes : Bytes) → IsSole (AreElements bytes)
unfolding AreElements
sole_elements bytes v w p q = elements_impl.ghosts.elements_injective v w p.0 q.0 (sym p.1 ∙ q.1)

-- AUTH_DATA has the content octets of id-pkinit-authData
pub auth_data-is : oid_content oids.pkinit_auth_data ≡ AUTH_DATA
unfolding oid_content subidentifier
auth_data-is = refl

-- the element of clientPublicValue, if it is there
abbrev pub value_in : AuthPack Raw → Option Raw
value_in pack = option_map (λ tagged. tagged.0) pack.client_public_value.0

-- the time of ctime and cusec, or none where cusec is no part of a second
unfoldable pub time_in : AuthPack Raw → Option Micros
time_in pack = moment_at (seconds_of pack.pk_authenticator.0.ctime.0.0) pack.pk_authenticator.0.cusec.0

-- the checksum is there, and is the SHA-1 digest of the bytes
abbrev pub is_sha1_of : Bytes → Option Bytes → Bool
is_sha1_of bytes None = false
is_sha1_of bytes (Some checksum) = pointwise nat_eq checksum (sha1 bytes)

-- paChecksum is the SHA-1 digest of the KDC-REQ-BODY
abbrev pub covers : KdcReqBody → AuthPack Raw → Bool
covers body pack = is_sha1_of (body_bytes body) (option_map (λ tagged. tagged.0) pack.pk_authenticator.0.pa_checksum.0)
