-- The rows of a request by certificate at a realm with a policy have an outcome: each part of them has one.
use Rattle.std.proofs.Common.{not, Option, None, Some, Ok, Err}
use Rattle.picky_asn1.specs.Bytes.{Bytes}
use Rattle.picky_asn1_der.specs.Raw.{Raw}
use Rattle.krb_time.specs.Skew.{is_far}
use Rattle.krb_constants.specs.declared.error_codes.TheConstants.{KDC_ERR_KEY_TOO_WEAK, KDC_ERR_PADATA_TYPE_NOSUPP, KDC_ERR_PREAUTH_FAILED, KRB_AP_ERR_SKEW}
use Rattle.krb_messages.specs.Bodies.{body_bytes}
use Rattle.krb_messages.specs.declared.messages.kdc_req_body.KdcReqBody.{KdcReqBody}
use Rattle.decision_tables.specs.Tables.{and_then, done, refuse}
use Rattle.decision_tables.proofs.Outcomes.{HasOutcome, has_asked, has_done, has_needed, has_refused, has_then}
use Rattle.krb_kdc_exchanges.specs.PkinitCalls.{AgreedRecord, PkinitCallRecord}
use Rattle.x509_keys.specs.KeyFunctions.{KeysRecord}
use Rattle.x509_keys.specs.KeyFunctions.TheirValue.{WholeValue}
use Rattle.cms_signed_data.specs.GeneralContents.{GeneralParts, IsGeneralContent, content_of}
use Rattle.cms_signed_data.specs.GeneralLaws.{one_general}
use Rattle.pkinit_messages.specs.AuthPacks.{IsExtensibleAuthPack, are_in_order, authenticator_in, checksum_in, kdfs_in, sole_extensible_auth_pack, time_in, value_in}
use Rattle.pkinit_messages.specs.ChosenKdfs.{first_known}
use Rattle.pkinit_validation.specs.Checksums.{IsPaChecksum2, is_checksum_of, second_checksum_in, sole_pa_checksum}
use Rattle.pkinit_messages.specs.declared.agility.auth_pack.ExtensibleAuthPack.{ExtensibleAuthPack}
use Rattle.pkinit_validation.specs.AgreementBytes.{agreement_bytes}
use Rattle.pkinit_validation.specs.AuthPacks.{IsPaPkAsReq, is_sha1_of, sole_pa_pk_as_req}
use Rattle.pkinit_validation.specs.Judging.{JudgingRecord, judging_by}
use Rattle.pkinit_validation.specs.Trust.{TrustRecord}
use Rattle.pkinit_validation.specs.GeneralFields.{FieldsRecord, covers, general_fields, second_checksum}
use Rattle.pkinit_validation.specs.GeneralReplies.{general_reply}
use Rattle.pkinit_validation.specs.GeneralReplyOutcome.{has_general_reply}
use Rattle.pkinit_validation.specs.GeneralTrust.{general_signer}
use Rattle.pkinit_validation.specs.HasTrusted.{has_signer}
use Rattle.pkinit_validation.specs.declared.policies.policy.GeneralPolicy.{GeneralPolicy}
use Rattle.pkinit_validation.specs.GeneralTable.{general_agreed, general_table, is_general_auth_data, of_general_content, of_general_pack, of_general_request, of_general_signed}

has_second : (bytes : Bytes) (field : Option Raw) → HasOutcome (second_checksum bytes field)
has_second bytes None = has_done (Ok tt)
has_second bytes (Some field) =
    has_asked (IsPaChecksum2 field) (sole_pa_checksum field) (done (Err KDC_ERR_PREAUTH_FAILED))
    (λ checksum. refuse {T = Unit {0}} (not (is_checksum_of bytes checksum.0)) KDC_ERR_PREAUTH_FAILED (done (Ok tt))) (has_done (Err KDC_ERR_PREAUTH_FAILED))
    (λ checksum c. has_refused {T = Unit {0}} (not (is_checksum_of bytes checksum.0)) KDC_ERR_PREAUTH_FAILED (done (Ok tt)) (λ _. has_done (Ok tt)))

has_covers : (body : KdcReqBody) (pack : ExtensibleAuthPack) → HasOutcome (covers body pack)
has_covers body pack =
    has_refused {T = Unit {0}} (not (is_sha1_of (body_bytes body) (checksum_in pack))) KDC_ERR_PREAUTH_FAILED (second_checksum (body_bytes body) (second_checksum_in pack))
    (λ _. has_second (body_bytes body) (second_checksum_in pack))

has_fields : (body : KdcReqBody) (pack : ExtensibleAuthPack) → HasOutcome (general_fields body pack)
has_fields body pack =
    has_refused {T = FieldsRecord} (not (are_in_order pack)) KDC_ERR_PREAUTH_FAILED _
    (λ _. has_needed (value_in pack) KDC_ERR_PREAUTH_FAILED _
    (λ value v. has_needed (time_in pack) KDC_ERR_PREAUTH_FAILED _
    (λ time t. has_then {A = Unit {0}} (covers body pack) (λ _. done (Ok (record { value = value; time = time; nonce = (authenticator_in pack).nonce.0; kdf = first_known (kdfs_in pack) }))) (has_covers body pack)
    (λ _ _. has_done (Ok (record { value = value; time = time; nonce = (authenticator_in pack).nonce.0; kdf = first_known (kdfs_in pack) }))))))

has_agreed : (keys : KeysRecord) (judging : JudgingRecord) (fields : FieldsRecord) → HasOutcome (general_agreed keys judging fields)
has_agreed keys judging fields =
    has_refused {T = AgreedRecord} (is_far judging.skew judging.expected.moment fields.time) KRB_AP_ERR_SKEW _
    (λ _. has_needed (keys.agree (WholeValue fields.value) (agreement_bytes judging.words)) KDC_ERR_KEY_TOO_WEAK _
    (λ secret e. has_then (general_reply keys judging.certificate fields.nonce judging.words fields.kdf) (λ reply. done (Ok (record { secret = secret; kdf = fields.kdf; reply = reply })))
    (has_general_reply keys judging.certificate fields.nonce judging.words fields.kdf) (λ reply r. has_done (Ok (record { secret = secret; kdf = fields.kdf; reply = reply })))))

has_pack : (keys : KeysRecord) (policy : GeneralPolicy) (judging : JudgingRecord) (content : GeneralParts) (pack : ExtensibleAuthPack) → HasOutcome (of_general_pack keys policy judging content pack)
has_pack keys policy judging content pack =
    has_then (general_fields judging.body pack) (λ fields. and_then (general_signer keys policy judging.expected content) (λ _. general_agreed keys judging fields)) (has_fields judging.body pack)
    (λ fields a. has_then {A = Unit {0}} (general_signer keys policy judging.expected content) (λ _. general_agreed keys judging fields)
    (has_signer keys policy judging.expected content) (λ _ _. has_agreed keys judging fields))

has_content : (keys : KeysRecord) (policy : GeneralPolicy) (judging : JudgingRecord) (content : GeneralParts) → HasOutcome (of_general_content keys policy judging content)
has_content keys policy judging content =
    has_refused {T = AgreedRecord} (not (is_general_auth_data content)) KDC_ERR_PREAUTH_FAILED _
    (λ _. has_asked (IsExtensibleAuthPack (content_of content.info)) (sole_extensible_auth_pack (content_of content.info)) (done (Err KDC_ERR_PREAUTH_FAILED))
    (of_general_pack keys policy judging content) (has_done (Err KDC_ERR_PREAUTH_FAILED)) (λ pack p. has_pack keys policy judging content pack))

has_request : (keys : KeysRecord) (policy : GeneralPolicy) (judging : JudgingRecord) (padata : Bytes) → HasOutcome (of_general_request keys policy judging padata)
has_request keys policy judging padata =
    has_asked (IsPaPkAsReq padata) (sole_pa_pk_as_req padata) (done (Err KDC_ERR_PREAUTH_FAILED)) (λ request. of_general_signed keys policy judging request.signed_auth_pack.0) (has_done (Err KDC_ERR_PREAUTH_FAILED))
    (λ request r. has_asked (IsGeneralContent request.signed_auth_pack.0) (one_general request.signed_auth_pack.0) (done (Err KDC_ERR_PREAUTH_FAILED)) (of_general_content keys policy judging)
    (has_done (Err KDC_ERR_PREAUTH_FAILED)) (λ content s. has_content keys policy judging content))

-- the whole part of the table has an outcome
pub has_general : (keys : KeysRecord) (policy : GeneralPolicy) (trust : TrustRecord) (call : PkinitCallRecord) (padata : Bytes) → HasOutcome (general_table keys policy trust call padata)
unfolding general_table
has_general keys policy trust call padata =
    has_needed trust.anchor KDC_ERR_PADATA_TYPE_NOSUPP _ (λ anchor a. has_needed trust.certificate KDC_ERR_PADATA_TYPE_NOSUPP _ (λ certificate c.
    has_request keys policy (judging_by call anchor certificate) padata))
