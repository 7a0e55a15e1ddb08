-- Why signed content is not trusted, and the codes that a KRB-ERROR has for it (RFC 4556, sections 3.1.3 and 3.2.2).
use Rattle.std.specs.Prelude.{Result, Ok, Err}
use Rattle.krb_constants.specs.declared.error_codes.TheConstants.{KDC_ERROR_INVALID_SIG, KDC_ERR_CANT_VERIFY_CERTIFICATE, KDC_ERR_INVALID_CERTIFICATE, KDC_ERR_CLIENT_NAME_MISMATCH}
use Rattle.krb_messages.specs.Refusals.{Code}
use Rattle.krb_messages.specs.declared.refusal.Refusal as krb
use Rattle.krb_messages.specs.declared.refusal.Refusal.TheVariants as krb_variant
use Rattle.pkinit_validation.specs.declared.refusal.TrustRefusal.{TrustRefusal}
use Rattle.pkinit_validation.specs.declared.refusal.TrustRefusal.TheVariants.{InvalidCertificate, CantVerifyCertificate, NameMismatch, InvalidSignature}
use Rattle.pkinit_validation.specs.declared.refusal.TrustFault.{TrustFault}
use Rattle.pkinit_validation.specs.declared.refusal.TrustFault.TheVariants.{Refused, Memory}

-- The error code of a KRB-ERROR for a refusal of signed content (RFC 4556, section 3.1.3).
abbrev pub code_of : TrustRefusal → Code
code_of InvalidCertificate = KDC_ERR_INVALID_CERTIFICATE
code_of CantVerifyCertificate = KDC_ERR_CANT_VERIFY_CERTIFICATE
code_of NameMismatch = KDC_ERR_CLIENT_NAME_MISMATCH
code_of InvalidSignature = KDC_ERROR_INVALID_SIG

-- the refusal of a request for this fault
abbrev pub request_refusal : TrustFault → krb.Refusal
request_refusal (Refused refusal) = krb_variant.Krb (code_of refusal)
request_refusal Memory = krb_variant.Memory

-- the answer for an outcome
abbrev pub as_answer : Result (Unit {0}) TrustRefusal → Result (Unit {0}) TrustFault
as_answer (Ok value) = Ok value
as_answer (Err refusal) = Err (Refused refusal)

-- memory aside, the answer is an outcome of the table
abbrev pub IsOutcome : {T : Type 0} → (Result T TrustRefusal → Type 0) → Result T TrustFault → Type 0
IsOutcome gives (Ok value) = gives (Ok value)
IsOutcome gives (Err (Refused refusal)) = gives (Err refusal)
IsOutcome gives (Err Memory) = Unit {0}
