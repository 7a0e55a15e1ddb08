-- How a KDC with a policy judges an AS request with PA-PK-AS-REQ, in parts of one table: the first case that holds counts (RFC 4556,
-- section 3.2.2).
use Rattle.std.specs.Prelude.{Bool, not, Result, Ok, Err}
use Rattle.std.specs.Bool.{nat_eq}
use Rattle.std.specs.Cmp.Lexicographic.{pointwise}
use Rattle.asn1_leaves.specs.ObjectIdentifier.{oid_content}
use Rattle.picky_asn1.specs.Bytes.{Bytes}
use Rattle.krb_time.specs.Skew.{is_far}
use Rattle.krb_constants.specs.declared.error_codes.TheConstants.{KDC_ERR_KEY_TOO_WEAK, KDC_ERR_PADATA_TYPE_NOSUPP, KDC_ERR_PREAUTH_FAILED, KRB_AP_ERR_SKEW}
use Rattle.krb_messages.specs.Refusals.{Code}
use Rattle.decision_tables.specs.Tables.{Table, and_then, ask, done, need, refuse}
use Rattle.krb_kdc_exchanges.specs.PkinitCalls.{AgreedRecord, PkinitCallRecord}
use Rattle.x509_keys.specs.KeyFunctions.{KeysRecord}
use Rattle.x509_keys.specs.KeyFunctions.TheirValue.{WholeValue}
use Rattle.cms_signed_data.specs.GeneralContents.{GeneralParts, IsGeneralContent, content_of}
use Rattle.cms_signed_data.specs.GeneralLaws.{one_general}
use Rattle.pkinit_messages.specs.AuthPacks.{IsExtensibleAuthPack, sole_extensible_auth_pack}
use Rattle.pkinit_messages.specs.declared.agility.auth_pack.ExtensibleAuthPack.{ExtensibleAuthPack}
use Rattle.pkinit_validation.specs.AgreementBytes.{agreement_bytes}
use Rattle.pkinit_validation.specs.AuthPacks.{IsPaPkAsReq, sole_pa_pk_as_req}
use Rattle.pkinit_validation.specs.Judging.{JudgingRecord, judging_by}
use Rattle.pkinit_validation.specs.Trust.{TrustRecord}
use Rattle.pkinit_validation.specs.GeneralFields.{FieldsRecord, general_fields}
use Rattle.pkinit_validation.specs.GeneralReplies.{general_reply}
use Rattle.pkinit_validation.specs.GeneralTrust.{general_signer}
use Rattle.pkinit_validation.specs.declared.policies.policy.GeneralPolicy.{GeneralPolicy}
use Rattle.pkinit_validation.specs.declared.table.TheConstants.{AUTH_DATA}

-- Judges the time of pkAuthenticator and agrees on a secret by clientPublicValue.
abbrev pub general_agreed : KeysRecord → JudgingRecord → FieldsRecord → Table (Result AgreedRecord Code)
general_agreed keys judging fields =
    -- The ctime and cusec of pkAuthenticator are within the clock skew (RFC 4556, section 3.2.2). Test: `general: late by a microsecond`.
    refuse (is_far judging.skew judging.expected.moment fields.time) KRB_AP_ERR_SKEW
    -- The KDC's key agreement has a secret for clientPublicValue (RFC 4556, section 3.2.2). Test: `general: agree none`.
    (need (keys.agree (WholeValue fields.value) (agreement_bytes judging.words)) KDC_ERR_KEY_TOO_WEAK (λ secret.
    and_then (general_reply keys judging.certificate fields.nonce judging.words fields.kdf) (λ reply.
    done (Ok (record { secret = secret; kdf = fields.kdf; reply = reply })))))

-- Judges an extensible AuthPack: its fields, then who signed it, then its time and its public value.
abbrev pub of_general_pack : KeysRecord → GeneralPolicy → JudgingRecord → GeneralParts → ExtensibleAuthPack → Table (Result AgreedRecord Code)
of_general_pack keys policy judging content pack =
    and_then (general_fields judging.body pack) (λ fields.
    and_then (general_signer keys policy judging.expected content) (λ _.
    general_agreed keys judging fields))

-- The eContentType is id-pkinit-authData.
abbrev pub is_general_auth_data : GeneralParts → Bool
is_general_auth_data parts = pointwise nat_eq (oid_content parts.info.content.0.encap_content_info.content_type.0) AUTH_DATA

-- Judges SignedData.
abbrev pub of_general_content : KeysRecord → GeneralPolicy → JudgingRecord → GeneralParts → Table (Result AgreedRecord Code)
of_general_content keys policy judging content =
    -- The eContentType of signedAuthPack is id-pkinit-authData (RFC 4556, section 3.2.1). Test: `general: content type id-data`.
    refuse (not (is_general_auth_data content)) KDC_ERR_PREAUTH_FAILED
    -- The eContent of signedAuthPack is the one DER encoding of an AuthPack, which may have further fields (RFC 4556, section 3.2.1).
    -- Test: `general: 00 behind`, `general: AuthPack empty`, `granted, field [6]`.
    (ask (IsExtensibleAuthPack (content_of content.info)) (sole_extensible_auth_pack (content_of content.info)) (done (Err KDC_ERR_PREAUTH_FAILED))
    (of_general_pack keys policy judging content))

-- Judges the octets of signedAuthPack.
abbrev pub of_general_signed : KeysRecord → GeneralPolicy → JudgingRecord → Bytes → Table (Result AgreedRecord Code)
of_general_signed keys policy judging bytes =
    -- The octets of signedAuthPack are a ContentInfo with SignedData of the general form (RFC 4556, section 3.2.1; RFC 5652, sections 3 and
    -- 5). Test: `general: crls`, `general: two signers`.
    ask (IsGeneralContent bytes) (one_general bytes) (done (Err KDC_ERR_PREAUTH_FAILED)) (of_general_content keys policy judging)

-- Judges the padata-value of a PA-PK-AS-REQ.
abbrev pub of_general_request : KeysRecord → GeneralPolicy → JudgingRecord → Bytes → Table (Result AgreedRecord Code)
of_general_request keys policy judging padata =
    -- The padata-value is the one DER encoding of a PA-PK-AS-REQ (RFC 4556, section 3.2.1). Test: `general: PA-PK-AS-REQ cut`.
    ask (IsPaPkAsReq padata) (sole_pa_pk_as_req padata) (done (Err KDC_ERR_PREAUTH_FAILED)) (λ request. of_general_signed keys policy judging request.signed_auth_pack.0)

-- The whole part of the table: only a realm with an anchor and a certificate of its own takes PA-PK-AS-REQ.
unfoldable pub general_table : KeysRecord → GeneralPolicy → TrustRecord → PkinitCallRecord → Bytes → Table (Result AgreedRecord Code)
general_table keys policy trust call padata =
    -- The realm has an anchor for its clients' certificates: else the padata type is not supported (RFC 4120, section 7.5.9).
    -- Test: `general: no anchor`.
    need trust.anchor KDC_ERR_PADATA_TYPE_NOSUPP (λ anchor.
    -- The realm has a certificate of its own: else the padata type is not supported (RFC 4120, section 7.5.9).
    -- Test: `general: no certificate of its own`.
    need trust.certificate KDC_ERR_PADATA_TYPE_NOSUPP (λ certificate.
    of_general_request keys policy (judging_by call anchor certificate) padata))
