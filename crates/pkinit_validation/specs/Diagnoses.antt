-- Why a PA-PK-AS-REQ isn't read to its end: the rows of `PkinitTable` that end with KDC_ERR_PREAUTH_FAILED, each by its name (RFC 4556,
-- section 3.2.1).
use Rattle.std.specs.Prelude.{is_none, nat_le, ℕ, List, codes, Bool, true, false, not, ◌&&◌, Option, None, Some, if◌then◌else◌}
use Rattle.std.specs.List.{list_all}
use Rattle.picky_asn1_der.specs.Raw.{Raw}
use Rattle.picky_asn1.specs.Bytes.{Bytes}
use Rattle.krb_messages.specs.declared.messages.kdc_req_body.KdcReqBody.{KdcReqBody}
use Rattle.decision_tables.specs.Tables.{Table, as_made, ask, done}
use Rattle.cms_signed_data.specs.SignedContents.{IsSignedContent}
use Rattle.cms_signed_data.specs.SignedLaws.{one_content}
use Rattle.cms_signed_data.specs.SignedParts.{SignedParts, content_of}
use Rattle.pkinit_messages.specs.declared.auth_pack.AuthPack.{AuthPack}
use Rattle.pkinit_validation.specs.AuthPacks.{AreElements, IsAuthPack, IsPaPkAsReq, covers, sole_auth_pack, sole_elements, sole_pa_pk_as_req, time_in, value_in}
use Rattle.pkinit_validation.specs.PkinitTable.{is_auth_data}
use Rattle.pkinit_validation.specs.declared.diagnosis.TheConstants.{CLIENT_DH_NONCE, PK_AUTHENTICATOR}
use Rattle.pkinit_validation.specs.declared.fault.PkAsReqFault.{PkAsReqFault}
use Rattle.pkinit_validation.specs.declared.fault.PkAsReqFault.TheVariants as fault

-- the part that is wrong, and what is wrong with it
abbrev pub fault_text : PkAsReqFault → List ℕ
fault_text fault.PaPkAsReq = codes "PA-PK-AS-REQ: not its one DER encoding"
fault_text fault.SignedAuthPack = codes "signedAuthPack: not SignedData of the one form"
fault_text fault.ContentType = codes "signedAuthPack: eContentType isn't id-pkinit-authData"
fault_text fault.UnknownField = codes "AuthPack: unknown field"
fault_text fault.AuthPack = codes "AuthPack: not its one DER encoding"
fault_text fault.PublicValue = codes "AuthPack: no clientPublicValue"
fault_text fault.Cusec = codes "pkAuthenticator: cusec isn't from 0 to 999999"
fault_text fault.PaChecksum = codes "pkAuthenticator: paChecksum isn't the SHA-1 digest of the request's body"

-- the element is one of the four fields of an AuthPack, by its identifier octet: [0] to [3]
abbrev pub is_field : Raw → Bool
is_field element = nat_le PK_AUTHENTICATOR element.first && nat_le element.first CLIENT_DH_NONCE

-- An eContent that is no AuthPack has an unknown field where it is a SEQUENCE with an element that is none of the four.
abbrev pub unread_fault : Bytes → Table PkAsReqFault
unread_fault bytes =
    -- Test: `AuthPack: field [4]`, `AuthPack: long length` of `pkinit_realms.txt`.
    ask (AreElements bytes) (sole_elements bytes) (done fault.AuthPack) (λ elements.
    done (if list_all is_field elements then fault.AuthPack else fault.UnknownField))

-- Test: `AuthPack: no public value`, `pkAuthenticator: cusec 1000000`, `pkAuthenticator: checksum of another body` of `pkinit_realms.txt`.
abbrev pub pack_fault : KdcReqBody → AuthPack Raw → Option PkAsReqFault
pack_fault body pack =
    if is_none (value_in pack) then Some fault.PublicValue
    else (if is_none (time_in pack) then Some fault.Cusec
    else (if not (covers body pack) then Some fault.PaChecksum
    else None))

-- the fault of an eContent of the right type
abbrev pub octets_fault : KdcReqBody → Bytes → Table (Option PkAsReqFault)
octets_fault body octets =
    ask (IsAuthPack octets) (sole_auth_pack octets) (as_made Some (unread_fault octets)) (λ pack. done (pack_fault body pack))

-- the same, by whether its type is right
abbrev pub typed_fault : KdcReqBody → Bytes → Bool → Table (Option PkAsReqFault)
typed_fault body octets false = done (Some fault.ContentType)
typed_fault body octets true = octets_fault body octets

abbrev pub content_fault : KdcReqBody → SignedParts → Table (Option PkAsReqFault)
content_fault body content = typed_fault body (content_of content.info) (is_auth_data content)

abbrev pub signed_fault : KdcReqBody → Bytes → Table (Option PkAsReqFault)
signed_fault body bytes = ask (IsSignedContent bytes) (one_content bytes) (done (Some fault.SignedAuthPack)) (content_fault body)

-- the fault of a padata-value of PA-PK-AS-REQ in a request with this body, or none
abbrev pub request_fault : KdcReqBody → Bytes → Table (Option PkAsReqFault)
request_fault body padata =
    ask (IsPaPkAsReq padata) (sole_pa_pk_as_req padata) (done (Some fault.PaPkAsReq)) (λ request. signed_fault body request.signed_auth_pack.0)
