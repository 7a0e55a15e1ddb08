-- Who signed signed data of the general form has an outcome.
use Rattle.std.proofs.Common.{not, List, [], ◌∷◌, Ok, Err}
use Rattle.std.specs.Bool.{nat_eq}
use Rattle.std.specs.Cmp.Lexicographic.{pointwise}
use Rattle.picky_asn1_der.specs.Raw.{Raw}
use Rattle.picky_asn1_der.specs.Splits.{raw_bytes}
use Rattle.krb_constants.specs.declared.error_codes.TheConstants.{KDC_ERR_DIGEST_IN_SIGNED_DATA_NOT_ACCEPTED}
use Rattle.decision_tables.specs.Tables.{and_then_told, done}
use Rattle.decision_tables.proofs.Outcomes.{HasOutcome, has_asked, has_done, has_refused}
use Rattle.x509_keys.specs.KeyFunctions.{KeysRecord}
use Rattle.x509_certificates.specs.declared.certificate.Certificate.{Certificate}
use Rattle.cms_signed_data.specs.Digests.{digest_by}
use Rattle.cms_signed_data.specs.GeneralContents.{GeneralParts, content_of}
use Rattle.pkinit_validation.specs.Accepted.{accepted}
use Rattle.pkinit_validation.specs.Certificates.{ReadRecord}
use Rattle.pkinit_validation.specs.Expected.{ExpectedRecord}
use Rattle.pkinit_validation.specs.HasOutcomes.{has_accepted, has_told}
use Rattle.pkinit_validation.specs.Refusals.{code_of}
use Rattle.pkinit_validation.specs.declared.refusal.TrustRefusal.TheVariants.{InvalidSignature}
use Rattle.pkinit_validation.specs.GeneralTrust.{IsAlgorithm, IsNamedBy, by_algorithm, by_certificate, certificates_of, general_signed_by, general_signer, sid_of, sole_algorithm, sole_named, takes_digest, trusted_among, verified_by, verifies_under}
use Rattle.pkinit_validation.specs.declared.policies.policy.GeneralPolicy.{GeneralPolicy}

has_signed_by : (keys : KeysRecord) (certificate : Certificate) (parts : GeneralParts) → HasOutcome (general_signed_by keys certificate parts)
has_signed_by keys certificate parts =
    has_refused {T = Unit {0}} (not (pointwise nat_eq (digest_by parts.algorithm (content_of parts.info)) parts.digest)) InvalidSignature (by_algorithm keys certificate parts)
    (λ _. has_asked (IsAlgorithm parts.info.content.0.signer_infos.0.signature_algorithm) (sole_algorithm parts.info.content.0.signer_infos.0.signature_algorithm) (done (Err InvalidSignature))
    (verified_by keys certificate parts) (has_done (Err InvalidSignature))
    (λ algorithm a. has_refused {T = Unit {0}} (not (verifies_under keys certificate parts algorithm)) InvalidSignature (done (Ok tt)) (λ _. has_done (Ok tt))))

has_by_certificate : (keys : KeysRecord) (expected : ExpectedRecord) (parts : GeneralParts) (read : ReadRecord) → HasOutcome (by_certificate keys expected parts read)
has_by_certificate keys expected parts read =
    has_told (λ error. error) (accepted keys expected read) (λ _. general_signed_by keys read.certificate parts) (has_accepted keys expected read)
    (λ _ _. has_signed_by keys read.certificate parts)

has_among : (keys : KeysRecord) (expected : ExpectedRecord) (parts : GeneralParts) (certificates : List Raw) → HasOutcome (trusted_among keys expected parts certificates)
has_among keys expected parts [] = has_done (Err InvalidSignature)
has_among keys expected parts (raw ∷ more) =
    has_asked (IsNamedBy (sid_of parts) (raw_bytes raw)) (sole_named (sid_of parts) (raw_bytes raw)) (trusted_among keys expected parts more) (by_certificate keys expected parts)
    (has_among keys expected parts more) (λ read r. has_by_certificate keys expected parts read)

pub has_signer : (keys : KeysRecord) (policy : GeneralPolicy) (expected : ExpectedRecord) (parts : GeneralParts) → HasOutcome (general_signer keys policy expected parts)
has_signer keys policy expected parts =
    has_refused {T = Unit {0}} (not (takes_digest policy parts.algorithm)) KDC_ERR_DIGEST_IN_SIGNED_DATA_NOT_ACCEPTED
    (and_then_told code_of (trusted_among keys expected parts (certificates_of parts)) (λ _. done (Ok tt)))
    (λ _. has_told code_of (trusted_among keys expected parts (certificates_of parts)) (λ _. done (Ok tt)) (has_among keys expected parts (certificates_of parts)) (λ _ _. has_done (Ok tt)))
