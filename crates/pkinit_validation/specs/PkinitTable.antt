-- How the KDC judges an AS request with PA-PK-AS-REQ, in parts of one table: the first case that holds counts (RFC 4556, section
-- 3.2.2).
use Rattle.std.specs.Prelude.{Bool, not, None, Result, Ok, Err}
use Rattle.std.specs.Bool.{nat_eq}
use Rattle.std.specs.Cmp.Lexicographic.{pointwise}
use Rattle.asn1_leaves.specs.ObjectIdentifier.{oid_content}
use Rattle.picky_asn1_der.specs.Raw.{Raw}
use Rattle.picky_asn1.specs.Bytes.{Bytes}
use Rattle.krb_time.specs.Skew.{is_far}
use Rattle.krb_constants.specs.declared.error_codes.TheConstants.{KDC_ERR_KEY_TOO_WEAK}
use Rattle.krb_constants.specs.declared.error_codes.TheConstants.{KDC_ERR_PADATA_TYPE_NOSUPP, KDC_ERR_PREAUTH_FAILED, KRB_AP_ERR_SKEW}
use Rattle.krb_messages.specs.Refusals.{Code}
use Rattle.krb_messages.specs.declared.messages.kdc_req_body.KdcReqBody.{KdcReqBody}
use Rattle.decision_tables.specs.Tables.{Table, and_then, and_then_told, ask, done, need, refuse}
use Rattle.krb_kdc_exchanges.specs.PkinitCalls.{AgreedRecord, PkinitCallRecord}
use Rattle.x509_keys.specs.KeyFunctions.{KeysRecord}
use Rattle.x509_keys.specs.KeyFunctions.TheirValue.{WholeValue}
use Rattle.cms_signed_data.specs.SignedContents.{IsSignedContent}
use Rattle.cms_signed_data.specs.SignedLaws.{one_content}
use Rattle.cms_signed_data.specs.SignedParts.{SignedParts, content_of}
use Rattle.pkinit_messages.specs.declared.auth_pack.AuthPack.{AuthPack}
use Rattle.pkinit_validation.specs.Expected.{ExpectedRecord}
use Rattle.pkinit_validation.specs.Refusals.{code_of}
use Rattle.pkinit_validation.specs.SignedContents.{judged_in}
use Rattle.pkinit_validation.specs.Trusted.{trusted}
use Rattle.pkinit_validation.specs.AgreementBytes.{agreement_bytes}
use Rattle.pkinit_validation.specs.Replies.{pk_as_rep}
use Rattle.pkinit_validation.specs.AuthPackFields.{AuthPackFieldsRecord}
use Rattle.pkinit_validation.specs.AuthPacks.{IsAuthPack, IsPaPkAsReq, covers, sole_auth_pack, sole_pa_pk_as_req, time_in, value_in}
use Rattle.pkinit_validation.specs.Judging.{JudgingRecord, judging_by}
use Rattle.pkinit_validation.specs.Trust.{TrustRecord}
use Rattle.pkinit_validation.specs.declared.table.TheConstants.{AUTH_DATA}

-- Judges the fields of an AuthPack: clientPublicValue, and the time and the checksum of pkAuthenticator.
-- Not judged: the nonce of pkAuthenticator may differ from the body's (RFC 4556, section 3.2.1).
-- Test: `granted, negative body nonce`, `granted, nonces differ (twin)`.
-- Ignored: supportedCMSTypes and clientDHNonce (RFC 4556, section 3.2.1). Test: `granted, supported types`, `granted, client nonce`.
abbrev pub auth_pack_fields : KdcReqBody → AuthPack Raw → Table (Result AuthPackFieldsRecord Code)
auth_pack_fields body pack =
    -- The AuthPack has clientPublicValue, which may be any element (RFC 4556, section 3.2.1).
    -- Test: `public value missing`, `granted, public value NULL`.
    need (value_in pack) KDC_ERR_PREAUTH_FAILED (λ value.
    -- The cusec of pkAuthenticator is from 0 to 999,999 (RFC 4556, section 3.2.1).
    -- Test: `cusec 1000000`, `cusec -1`, `granted, cusec 999999`.
    need (time_in pack) KDC_ERR_PREAUTH_FAILED (λ time.
    -- The paChecksum of pkAuthenticator is there, and is the SHA-1 digest of the KDC-REQ-BODY (RFC 4556, section 3.2.1). A missing one has
    -- this error too, and not KDC_ERR_PA_CHECKSUM_MUST_BE_INCLUDED (79).
    -- Test: `checksum missing, client b`, `checksum 19 bytes`.
    refuse (not (covers body pack)) KDC_ERR_PREAUTH_FAILED
    (done (Ok (record { value = value; time = time; nonce = pack.pk_authenticator.0.nonce.0 })))))

-- Judges the signature of signedAuthPack.
abbrev pub signed_by_client : KeysRecord → ExpectedRecord → SignedParts → Table (Result (Unit {0}) Code)
signed_by_client keys expected content =
    -- The client signed the content, by a certificate that is accepted under the realm's anchor and names the client (RFC 4556, section
    -- 3.2.2). Test: `signed: signature wrong`, `principal: other principal`, `another issuer`.
    and_then_told code_of (trusted keys expected (judged_in content)) (λ _. done (Ok tt))

-- Judges the time of pkAuthenticator and agrees on a secret by clientPublicValue.
abbrev pub agreed_on : KeysRecord → JudgingRecord → AuthPackFieldsRecord → Table (Result AgreedRecord Code)
agreed_on keys judging fields =
    -- The ctime and cusec of pkAuthenticator are within the clock skew (RFC 4556, section 3.2.2).
    -- Test: `PKAuthenticator late by a microsecond`, `granted, skew late edge`.
    refuse (is_far judging.skew judging.expected.moment fields.time) KRB_AP_ERR_SKEW
    -- The KDC's key agreement has a secret for clientPublicValue (RFC 4556, section 3.2.2, where 65 is
    -- KDC_ERR_DH_KEY_PARAMETERS_NOT_ACCEPTED).
    -- Test: `agree none, client b`, `agree none, loose realm`.
    (need (keys.agree (WholeValue fields.value) (agreement_bytes judging.words)) KDC_ERR_KEY_TOO_WEAK (λ secret.
    and_then (pk_as_rep keys judging.certificate fields.nonce judging.words) (λ reply.
    -- The reply key is made without a key derivation function of RFC 8636 (RFC 4556, section 3.2.3.1). Test: `granted a suite 18`.
    done (Ok (record { secret = secret; kdf = None; reply = reply })))))

-- Judges an AuthPack: its fields, then who signed it, then its time and its public value.
abbrev pub of_auth_pack : KeysRecord → JudgingRecord → SignedParts → AuthPack Raw → Table (Result AgreedRecord Code)
of_auth_pack keys judging content pack =
    and_then (auth_pack_fields judging.body pack) (λ fields.
    and_then (signed_by_client keys judging.expected content) (λ _.
    agreed_on keys judging fields))

-- The eContentType is id-pkinit-authData.
abbrev pub is_auth_data : SignedParts → Bool
is_auth_data content = pointwise nat_eq (oid_content content.info.content.0.encap_content_info.content_type.0) AUTH_DATA

-- Judges SignedData of the one form.
abbrev pub of_content : KeysRecord → JudgingRecord → SignedParts → Table (Result AgreedRecord Code)
of_content keys judging content =
    -- The eContentType of signedAuthPack is id-pkinit-authData (RFC 4556, section 3.2.1).
    -- Test: `content type 1.3.6.1.5.2.3.2`, `content type 1.2.840.113549.1.7.1`.
    refuse (not (is_auth_data content)) KDC_ERR_PREAUTH_FAILED
    -- The eContent of signedAuthPack is the one DER encoding of an AuthPack (RFC 4556, section 3.2.1).
    -- Test: `AuthPack: 00 behind`, `AuthPack: AuthPack empty`.
    (ask (IsAuthPack (content_of content.info)) (sole_auth_pack (content_of content.info)) (done (Err KDC_ERR_PREAUTH_FAILED)) (of_auth_pack keys judging content))

-- Judges the octets of signedAuthPack.
abbrev pub of_signed : KeysRecord → JudgingRecord → Bytes → Table (Result AgreedRecord Code)
of_signed keys judging bytes =
    -- The octets of signedAuthPack are a ContentInfo with SignedData of the one form (RFC 4556, section 3.2.1; RFC 5652, sections 3 and 5).
    -- Test: `signed content: no certificate`, `signed content: crls`.
    ask (IsSignedContent bytes) (one_content bytes) (done (Err KDC_ERR_PREAUTH_FAILED)) (of_content keys judging)

-- Judges the padata-value of a PA-PK-AS-REQ.
-- Ignored: trustedCertifiers and kdcPkId (RFC 4556, section 3.2.1).
-- Test: `granted, no trusted certifiers in the list`, `granted, kdcPkId (twin)`.
abbrev pub of_request : KeysRecord → JudgingRecord → Bytes → Table (Result AgreedRecord Code)
of_request keys judging padata =
    -- The padata-value is the one DER encoding of a PA-PK-AS-REQ (RFC 4556, section 3.2.1).
    -- Test: `PA-PK-AS-REQ: 00 behind`, `PA-PK-AS-REQ: cut`.
    ask (IsPaPkAsReq padata) (sole_pa_pk_as_req padata) (done (Err KDC_ERR_PREAUTH_FAILED)) (λ request. of_signed keys judging request.signed_auth_pack.0)

-- The whole part of the table: only a realm with an anchor and a certificate of its own takes PA-PK-AS-REQ.
unfoldable pub pkinit_table : KeysRecord → TrustRecord → PkinitCallRecord → Bytes → Table (Result AgreedRecord Code)
pkinit_table keys trust call padata =
    -- The realm has an anchor for its clients' certificates: else the padata type is not supported (RFC 4120, section 7.5.9).
    -- Test: `types 2 (right) and 16`.
    need trust.anchor KDC_ERR_PADATA_TYPE_NOSUPP (λ anchor.
    -- The realm has a certificate of its own: else the padata type is not supported (RFC 4120, section 7.5.9).
    -- Test: `PA-PK-AS-REQ`, `PA-PK-AS-REQ, certificate past validity`.
    need trust.certificate KDC_ERR_PADATA_TYPE_NOSUPP (λ certificate.
    of_request keys (judging_by call anchor certificate) padata))
