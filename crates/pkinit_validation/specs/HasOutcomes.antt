-- The rows of a request by certificate have an outcome: each part of them has one.
use Rattle.std.proofs.Common.{Bool, not, None, Result, Ok, Err, inl, inr, refl}
use Rattle.std.specs.Bool.{nat_eq}
use Rattle.std.specs.Cmp.Lexicographic.{pointwise}
use Rattle.sha2.specs.Sha256.{sha256}
use Rattle.picky_asn1_der.specs.Raw.{Raw}
use Rattle.picky_asn1.specs.Bytes.{Bytes}
use Rattle.picky_asn1.specs.Integer.{integer_content}
use Rattle.krb_time.specs.Skew.{is_far}
use Rattle.krb_constants.specs.declared.error_codes.TheConstants.{KDC_ERR_KEY_TOO_WEAK}
use Rattle.krb_constants.specs.declared.error_codes.TheConstants.{KDC_ERR_PADATA_TYPE_NOSUPP, KDC_ERR_PREAUTH_FAILED, KRB_AP_ERR_SKEW}
use Rattle.krb_messages.specs.Names.{components, is_same_name, is_same_realm}
use Rattle.krb_messages.specs.declared.messages.kdc_req_body.KdcReqBody.{KdcReqBody}
use Rattle.decision_tables.specs.Tables.{Table, and_then, and_then_told, ask, done, refuse}
use Rattle.decision_tables.proofs.Outcomes.{HasOutcome, has_asked, has_done, has_needed, has_refused, has_then}
use Rattle.krb_kdc_exchanges.specs.PkinitCalls.{AgreedRecord, PkinitCallRecord}
use Rattle.x509_keys.specs.KeyFunctions.{KeysRecord}
use Rattle.x509_keys.specs.KeyFunctions.TheirValue.{WholeValue}
use Rattle.cms_signed_data.specs.SignedContents.{IsSignedContent}
use Rattle.cms_signed_data.specs.SignedLaws.{one_content}
use Rattle.cms_signed_data.specs.SignedParts.{SignedParts, content_of}
use Rattle.pkinit_messages.specs.declared.auth_pack.AuthPack.{AuthPack}
use Rattle.pkinit_validation.specs.Accepted.{accepted, has_unrecognised, is_valid_at, issued}
use Rattle.pkinit_validation.specs.Certificates.{IsCertificate, ReadRecord, name_bytes, sole_certificate}
use Rattle.pkinit_validation.specs.Expected.{ExpectedRecord}
use Rattle.pkinit_validation.specs.Judged.{JudgedRecord}
use Rattle.pkinit_validation.specs.Principals.{IsPrincipal, element_of, named, sole_principal}
use Rattle.pkinit_validation.specs.Refusals.{code_of}
use Rattle.pkinit_validation.specs.SignedContents.{judged_in}
use Rattle.pkinit_validation.specs.Signers.{signed_by}
use Rattle.pkinit_validation.specs.Trusted.{trusted, trusted_by}
use Rattle.pkinit_validation.specs.declared.principal_name.Krb5PrincipalName.{Krb5PrincipalName}
use Rattle.pkinit_validation.specs.declared.refusal.TrustRefusal.{TrustRefusal}
use Rattle.pkinit_validation.specs.declared.refusal.TrustRefusal.TheVariants.{CantVerifyCertificate, InvalidCertificate, InvalidSignature, NameMismatch}
use Rattle.pkinit_validation.specs.AgreementBytes.{agreement_bytes}
use Rattle.pkinit_validation.specs.Replies.{pk_as_rep}
use Rattle.pkinit_validation.specs.ReplyOutcome.{has_reply}
use Rattle.pkinit_validation.specs.AuthPackFields.{AuthPackFieldsRecord}
use Rattle.pkinit_validation.specs.AuthPacks.{IsAuthPack, IsPaPkAsReq, covers, sole_auth_pack, sole_pa_pk_as_req, time_in, value_in}
use Rattle.pkinit_validation.specs.Judging.{JudgingRecord, judging_by}
use Rattle.pkinit_validation.specs.PkinitTable.{agreed_on, auth_pack_fields, is_auth_data, of_auth_pack, of_content, of_request, of_signed, pkinit_table, signed_by_client}
use Rattle.pkinit_validation.specs.Trust.{TrustRecord}

-- the whole has the outcome of the part that decides, and that part's error is one of the whole's
told : {A T E F : Type 0} (told_as : E → F) (t : Table (Result A E)) (rest : A → Table (Result T F)) (unmet : (s : Result T F) → (and_then_told told_as t rest).gives s → ⊥)
    → ((a : A) → t.gives (Ok a) → HasOutcome (rest a)) → (r : Result A E) → t.gives r → ⊥
told told_as t rest unmet each (Ok a) x = each a x (λ s y. unmet s (inl (a, x, y)))
told told_as t rest unmet each (Err error) x = unmet (Err (told_as error)) (inr (error, x, refl))

pub has_told : {A T E F : Type 0} (told_as : E → F) (t : Table (Result A E)) (rest : A → Table (Result T F)) → HasOutcome t
    → ((a : A) → t.gives (Ok a) → HasOutcome (rest a)) → HasOutcome (and_then_told told_as t rest)
has_told told_as t rest some each = λ unmet. some (told told_as t rest unmet each)

-- four rows that refuse, one after another
has_four : (a b c d : Bool) (e f g h : TrustRefusal) → HasOutcome (refuse {T = Unit {0}} a e (refuse b f (refuse c g (refuse d h (done (Ok tt))))))
has_four a b c d e f g h =
    has_refused {T = Unit {0}} a e (refuse b f (refuse c g (refuse d h (done (Ok tt)))))
    (λ _. has_refused {T = Unit {0}} b f (refuse c g (refuse d h (done (Ok tt))))
    (λ _. has_refused {T = Unit {0}} c g (refuse d h (done (Ok tt)))
    (λ _. has_refused {T = Unit {0}} d h (done (Ok tt)) (λ _. has_done (Ok tt)))))

has_issued : (keys : KeysRecord) (expected : ExpectedRecord) (read : ReadRecord) → HasOutcome (issued keys expected read)
has_issued keys expected read =
    has_four (not (is_valid_at expected.moment read.certificate.tbs_certificate.validity)) (not (pointwise nat_eq (name_bytes read.certificate.tbs_certificate.issuer) expected.anchor.subject))
    (has_unrecognised read.certificate) (not (keys.verifies expected.anchor.key read.certificate.signature_algorithm read.signed read.certificate.signature_value.octets))
    InvalidCertificate CantVerifyCertificate CantVerifyCertificate CantVerifyCertificate

has_signed : (keys : KeysRecord) (read : ReadRecord) (judged : JudgedRecord) → HasOutcome (signed_by keys read.certificate judged)
has_signed keys read judged =
    has_four (not (pointwise nat_eq (name_bytes read.certificate.tbs_certificate.issuer) (name_bytes judged.issuer)))
    (not (pointwise nat_eq (integer_content read.certificate.tbs_certificate.serial_number) (integer_content judged.serial))) (not (pointwise nat_eq (sha256 judged.content) judged.digest))
    (not (keys.verifies read.certificate.tbs_certificate.subject_public_key_info judged.algorithm judged.covered judged.signature))
    InvalidSignature InvalidSignature InvalidSignature InvalidSignature

-- the expected principal is the one that was read
abbrev is_expected : ExpectedRecord → Krb5PrincipalName → Table (Result (Unit {0}) TrustRefusal)
is_expected expected principal =
    refuse (not (is_same_realm principal.realm.0 expected.realm)) NameMismatch
    (refuse (not (is_same_name (components principal.principal_name.0) expected.name)) NameMismatch (done (Ok tt)))

has_expected : (expected : ExpectedRecord) (principal : Krb5PrincipalName) → HasOutcome (is_expected expected principal)
has_expected expected principal =
    has_refused {T = Unit {0}} (not (is_same_realm principal.realm.0 expected.realm)) NameMismatch
    (refuse (not (is_same_name (components principal.principal_name.0) expected.name)) NameMismatch (done (Ok tt)))
    (λ _. has_refused {T = Unit {0}} (not (is_same_name (components principal.principal_name.0) expected.name)) NameMismatch (done (Ok tt)) (λ _. has_done (Ok tt)))

has_named : (expected : ExpectedRecord) (read : ReadRecord) → HasOutcome (named expected read.certificate)
has_named expected read =
    has_needed (element_of read.certificate) NameMismatch (λ element. ask (IsPrincipal element) (sole_principal element) (done (Err NameMismatch)) (is_expected expected))
    (λ element e. has_asked (IsPrincipal element) (sole_principal element) (done (Err NameMismatch)) (is_expected expected) (has_done (Err NameMismatch))
    (λ principal p. has_expected expected principal))

pub has_accepted : (keys : KeysRecord) (expected : ExpectedRecord) (read : ReadRecord) → HasOutcome (accepted keys expected read)
has_accepted keys expected read =
    has_told (λ error. error) (issued keys expected read) (λ _. named expected read.certificate) (has_issued keys expected read) (λ _ _. has_named expected read)

has_trusted : (keys : KeysRecord) (expected : ExpectedRecord) (judged : JudgedRecord) → HasOutcome (trusted keys expected judged)
has_trusted keys expected judged =
    has_asked (IsCertificate judged.certificate) (sole_certificate judged.certificate) (done (Err CantVerifyCertificate)) (trusted_by keys expected judged) (has_done (Err CantVerifyCertificate))
    (λ read r. has_told (λ error. error) (accepted keys expected read) (λ _. signed_by keys read.certificate judged)
    (has_accepted keys expected read)
    (λ _ _. has_signed keys read judged))

has_agreed : (keys : KeysRecord) (judging : JudgingRecord) (fields : AuthPackFieldsRecord) → HasOutcome (agreed_on keys judging fields)
has_agreed keys judging fields =
    has_refused {T = AgreedRecord} (is_far judging.skew judging.expected.moment fields.time) KRB_AP_ERR_SKEW _
    (λ _. has_needed (keys.agree (WholeValue fields.value) (agreement_bytes judging.words)) KDC_ERR_KEY_TOO_WEAK _
    (λ secret e. has_then (pk_as_rep keys judging.certificate fields.nonce judging.words) (λ reply. done (Ok (record { secret = secret; kdf = None; reply = reply })))
    (has_reply keys judging.certificate fields.nonce judging.words) (λ reply r. has_done (Ok (record { secret = secret; kdf = None; reply = reply })))))

has_auth_pack_fields : (body : KdcReqBody) (pack : AuthPack Raw) → HasOutcome (auth_pack_fields body pack)
has_auth_pack_fields body pack =
    has_needed (value_in pack) KDC_ERR_PREAUTH_FAILED _ (λ value v. has_needed (time_in pack) KDC_ERR_PREAUTH_FAILED _ (λ time t. has_refused {T = AuthPackFieldsRecord} (not (covers body pack)) KDC_ERR_PREAUTH_FAILED _ (λ _. has_done (Ok _))))

pub has_signed_by_client : (keys : KeysRecord) (expected : ExpectedRecord) (content : SignedParts) → HasOutcome (signed_by_client keys expected content)
has_signed_by_client keys expected content =
    has_told code_of (trusted keys expected (judged_in content)) (λ _. done (Ok tt)) (has_trusted keys expected (judged_in content)) (λ _ _. has_done (Ok tt))

has_pack : (keys : KeysRecord) (judging : JudgingRecord) (content : SignedParts) (pack : AuthPack Raw) → HasOutcome (of_auth_pack keys judging content pack)
has_pack keys judging content pack =
    has_then (auth_pack_fields judging.body pack) (λ fields. and_then (signed_by_client keys judging.expected content) (λ _. agreed_on keys judging fields)) (has_auth_pack_fields judging.body pack)
    (λ fields a. has_then {A = Unit {0}} (signed_by_client keys judging.expected content) (λ _. agreed_on keys judging fields)
    (has_signed_by_client keys judging.expected content)
    (λ _ _. has_agreed keys judging fields))

has_content : (keys : KeysRecord) (judging : JudgingRecord) (content : SignedParts) → HasOutcome (of_content keys judging content)
has_content keys judging content =
    has_refused {T = AgreedRecord} (not (is_auth_data content)) KDC_ERR_PREAUTH_FAILED _
    (λ _. has_asked (IsAuthPack (content_of content.info)) (sole_auth_pack (content_of content.info)) (done (Err KDC_ERR_PREAUTH_FAILED)) (of_auth_pack keys judging content) (has_done (Err KDC_ERR_PREAUTH_FAILED))
    (λ pack p. has_pack keys judging content pack))

has_request : (keys : KeysRecord) (judging : JudgingRecord) (padata : Bytes) → HasOutcome (of_request keys judging padata)
has_request keys judging padata =
    has_asked (IsPaPkAsReq padata) (sole_pa_pk_as_req padata) (done (Err KDC_ERR_PREAUTH_FAILED)) (λ request. of_signed keys judging request.signed_auth_pack.0) (has_done (Err KDC_ERR_PREAUTH_FAILED))
    (λ request r. has_asked (IsSignedContent request.signed_auth_pack.0) (one_content request.signed_auth_pack.0) (done (Err KDC_ERR_PREAUTH_FAILED)) (of_content keys judging) (has_done (Err KDC_ERR_PREAUTH_FAILED))
    (λ content s. has_content keys judging content))

-- the whole part of the table has an outcome
pub has_pkinit : (keys : KeysRecord) (trust : TrustRecord) (call : PkinitCallRecord) (padata : Bytes) → HasOutcome (pkinit_table keys trust call padata)
unfolding pkinit_table
has_pkinit keys trust call padata =
    has_needed trust.anchor KDC_ERR_PADATA_TYPE_NOSUPP _ (λ anchor a. has_needed trust.certificate KDC_ERR_PADATA_TYPE_NOSUPP _ (λ certificate c.
    has_request keys (judging_by call anchor certificate) padata))
