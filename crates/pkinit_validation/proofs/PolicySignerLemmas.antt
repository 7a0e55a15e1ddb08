-- What a certificate of the list comes to, the list comes to; and what the list comes to, the signer does.
use Rattle.std.proofs.Common.{◌≡◌, ℕ, suc, ◌+◌, ◌<◌, ◌≤◌, Bool, true, false, not, List, ◌∷◌, length, get_or, drop, Option, None, Some, Result, Ok, Err, refl, sym, ap, ◌∙◌, subst, inl, inr, arith, drop-cons}
use Rattle.std.proofs.lemmas.List.{drop_all}
use Rattle.picky_asn1.specs.Bytes.{Bytes}
use Rattle.picky_asn1_der.specs.Raw.{Raw}
use Rattle.picky_asn1_der.specs.Splits.{raw_bytes}
use Rattle.x509_algorithms.specs.AlgorithmLaws.{same_parts}
use Rattle.x509_algorithms.specs.AlgorithmKinds.{is_parameters_of}
use Rattle.x509_algorithms.specs.AlgorithmsMade.{IsMade}
use Rattle.x509_algorithms.specs.declared.algorithm_identifier.AlgorithmIdentifier.{AlgorithmIdentifier}
use Rattle.x509_algorithms.specs.declared.algorithm_kinds.AlgorithmIdentifierParameters.TheVariants as kind
use Rattle.x509_certificates.specs.declared.certificate.Certificate.{Certificate}
use Rattle.x509_codec.specs.Covered.{as_set}
use Rattle.x509_keys.specs.KeyFunctions.{KeysRecord}
use Rattle.x509_keys.specs.declared.subject_public_key_info.SubjectPublicKeyInfo.{SubjectPublicKeyInfo}
use Rattle.std.specs.Bool.{nat_eq}
use Rattle.std.specs.Cmp.Lexicographic.{pointwise}
use Rattle.std.specs.Prelude.{IfOk, IsTrue, unwrap_or, if◌then◌else◌}
use Rattle.asn1_leaves.specs.ObjectIdentifier.{oid_content}
use Rattle.cms_signed_data.specs.declared.general_form.digest_algorithm.DigestAlgorithm.{DigestAlgorithm}
use Rattle.decision_tables.specs.One.{IsSole}
use Rattle.decision_tables.specs.Tables.{Table, and_then_told, ask, done}
use Rattle.krb_constants.specs.declared.error_codes.TheConstants.{KDC_ERR_DIGEST_IN_SIGNED_DATA_NOT_ACCEPTED}
use Rattle.krb_messages.specs.Refusals.{Code, IsJudged}
use Rattle.krb_messages.specs.declared.refusal.Refusal.{Refusal}
use Rattle.cms_signed_data.specs.GeneralContents.{GeneralParts, attributes_bytes, signature_of}
use Rattle.cms_signed_data.specs.Identifiers.{names}
use Rattle.pkinit_validation.specs.Certificates.{IsCertificate, ReadRecord}
use Rattle.pkinit_validation.specs.Expected.{ExpectedRecord}
use Rattle.pkinit_validation.specs.Refusals.{IsOutcome, as_answer, code_of, request_refusal}
use Rattle.pkinit_validation.specs.declared.refusal.TrustFault.{TrustFault}
use Rattle.pkinit_validation.specs.declared.refusal.TrustFault.TheVariants.{Refused, Memory}
use Rattle.pkinit_validation.specs.declared.refusal.TrustRefusal.{TrustRefusal}
use Rattle.pkinit_validation.specs.declared.refusal.TrustRefusal.TheVariants.{InvalidSignature}
use Rattle.pkinit_validation.specs.declared.policies.signer.TheConstants.{RSA_ENCRYPTION}
use Rattle.pkinit_validation.specs.GeneralTrust.{IsJudgedAs, IsJudgedBy, certificates_of, general_signer, is_by_sha1, rsa_beside, rsa_named, sid_of, signature_under, takes_digest, trusted_among, verifies_by}
use Rattle.pkinit_validation.specs.declared.policies.policy.GeneralPolicy.{GeneralPolicy}
use Rattle.pkinit_validation.proofs.WidenedLemmas.{by_refuse}

module _ (keys : KeysRecord) (expected : ExpectedRecord) (parts : GeneralParts) where
  -- what the rest of a list comes to, the list comes to, where no certificate in front of it is named
  abbrev pub ComesTo : List Raw → List Raw → Type 0
  ComesTo certificates rest =
      (outcome : Result (Unit {0}) TrustRefusal) → (trusted_among keys expected parts rest).gives outcome → (trusted_among keys expected parts certificates).gives outcome

  -- the list from an index on begins with the certificate at this index
  from_index : (certificates : List Raw) (index : ℕ) (raw : Raw) → index < length certificates → get_or certificates index raw ≡ raw
      → drop index certificates ≡ raw ∷ drop (suc index) certificates
  from_index certificates index raw below is = drop-cons certificates index raw below ∙ ap (λ (x : Raw). x ∷ drop (suc index) certificates) is

  pub passed_at : (certificates : List Raw) (index : ℕ) (raw : Raw) → index < length certificates → get_or certificates index raw ≡ raw
      → IsJudgedBy keys expected parts (raw_bytes raw) None → ComesTo certificates (drop index certificates) → ComesTo certificates (drop (index + 1) certificates)
  passed_at certificates index raw below is none comes =
      let there : ComesTo certificates (raw ∷ drop (suc index) certificates) =
      subst (λ (rest : List Raw). ComesTo certificates rest) (from_index certificates index raw below is) comes in
      let passed : ComesTo certificates (drop (suc index) certificates) = λ outcome given. there outcome (inr (none, given)) in
      let next : suc index ≡ index + 1 = omega arith in
      subst (λ (n : ℕ). ComesTo certificates (drop n certificates)) next passed

  pub found_at : (certificates : List Raw) (index : ℕ) (raw : Raw) (outcome : Result (Unit {0}) TrustRefusal) → index < length certificates → get_or certificates index raw ≡ raw
      → IsJudgedBy keys expected parts (raw_bytes raw) (Some outcome) → ComesTo certificates (drop index certificates) → (trusted_among keys expected parts certificates).gives outcome
  found_at certificates index raw outcome below is judged comes =
      subst (λ (rest : List Raw). ComesTo certificates rest) (from_index certificates index raw below is) comes outcome (inl (judged.0, judged.1, judged.2))

  pub none_of_them : (certificates : List Raw) (index : ℕ) → length certificates ≤ index → ComesTo certificates (drop index certificates)
      → (trusted_among keys expected parts certificates).gives (Err InvalidSignature)
  none_of_them certificates index past comes =
      subst (λ (rest : List Raw). ComesTo certificates rest) (drop_all index certificates past) comes (Err InvalidSignature) refl

  -- what a certificate that was read comes to
  judged_read : (bytes : Bytes) (certificate : Certificate) (signed : Bytes) (is : IsCertificate bytes (record { certificate = certificate; signed = signed }))
      → (judged : Option (Result (Unit {0}) TrustRefusal)) → IsJudgedAs keys expected parts (record { certificate = certificate; signed = signed }) judged
      → ((read : ReadRecord) → IsCertificate bytes read → read ≡ record { certificate = certificate; signed = signed })
      → IsJudgedBy keys expected parts bytes judged
  judged_read bytes certificate signed is None other one =
      λ read named. other (subst (λ (r : ReadRecord). names (sid_of parts) r.certificate ≡ true) (one read named.is) named.named)
  judged_read bytes certificate signed is (Some outcome) judged one =
      (record { certificate = certificate; signed = signed }, record { is = is; named = judged.0 }, judged.1)

  pub judged_told : {E : Type 0} (bytes : Bytes) (certificate : Certificate) (signed : Bytes) (is : IsCertificate bytes (record { certificate = certificate; signed = signed }))
      → (told : Result (Option (Result (Unit {0}) TrustRefusal)) E) → IfOk told (IsJudgedAs keys expected parts (record { certificate = certificate; signed = signed }))
      → ((read : ReadRecord) → IsCertificate bytes read → read ≡ record { certificate = certificate; signed = signed })
      → IfOk told (IsJudgedBy keys expected parts bytes)
  judged_told bytes certificate signed is (Ok judged) given one = judged_read bytes certificate signed is judged given one
  judged_told bytes certificate signed is (Err error) given one = tt

-- an outcome that was told is the table's
pub told_outcome : (gives : Result (Unit {0}) TrustRefusal → Type 0) (outcome : Result (Unit {0}) TrustRefusal) → gives outcome
    → (answer : Result (Unit {0}) TrustFault) → IsOutcome (λ given. given ≡ outcome) answer → IsOutcome gives answer
told_outcome gives outcome given (Ok value) is = subst gives (sym is) given
told_outcome gives outcome given (Err (Refused refusal)) is = subst gives (sym is) given
told_outcome gives outcome given (Err Memory) is = tt

-- the outcome for which an answer is one is the table's
pub outcome_back : (gives : Result (Unit {0}) TrustRefusal → Type 0) (outcome : Result (Unit {0}) TrustRefusal) (answer : Result (Unit {0}) TrustFault)
    → IsOutcome gives answer → answer ≡ as_answer outcome → gives outcome
outcome_back gives (Ok value) answer is same = subst (λ (a : Result (Unit {0}) TrustFault). IsOutcome gives a) same is
outcome_back gives (Err refusal) answer is same = subst (λ (a : Result (Unit {0}) TrustFault). IsOutcome gives a) same is

-- what the cases behind a value that was read give, the table gives
pub outcome_ask : {A T : Type 0} (P : A → Type 0) (sole : IsSole P) (otherwise : Table (Result T TrustRefusal)) (rest : A → Table (Result T TrustRefusal)) (a : A)
    (r : Result T TrustFault) → P a → IsOutcome (rest a).gives r → IsOutcome (ask P sole otherwise rest).gives r
outcome_ask P sole otherwise rest a (Ok x) p g = inl (a, p, g)
outcome_ask P sole otherwise rest a (Err (Refused refusal)) p g = inl (a, p, g)
outcome_ask P sole otherwise rest a (Err Memory) p g = tt

-- an algorithm that was made of RSA with NULL
pub made_rsa : (arcs : List ℕ) (is : IsTrue (is_parameters_of arcs kind.Null)) (made : AlgorithmIdentifier) → IsMade arcs kind.Null made → made ≡ rsa_named arcs is
made_rsa arcs is made parts = same_parts made (rsa_named arcs is) (λ i. record { 0 = parts.0 i }) parts.1

-- What the certificates come to is told as the table of requests has it, where the policy takes the digest algorithm.
module _ (keys : KeysRecord) (policy : GeneralPolicy) (expected : ExpectedRecord) (parts : GeneralParts) (takes : takes_digest policy parts.algorithm ≡ true)
    (certificates : List Raw) (same : certificates ≡ certificates_of parts) where
  abbrev by_certificates : Table (Result (Unit {0}) Code)
  by_certificates = and_then_told code_of (trusted_among keys expected parts (certificates_of parts)) (λ _. done (Ok tt))

  signer_gives : (r : Result (Unit {0}) Code) → by_certificates.gives r → (general_signer keys policy expected parts).gives r
  signer_gives r given =
      by_refuse {T = Unit {0}} {E = Code} (not (takes_digest policy parts.algorithm)) KDC_ERR_DIGEST_IN_SIGNED_DATA_NOT_ACCEPTED by_certificates r (ap not takes) given

  pub signed_general : (trusted_among keys expected parts certificates).gives (Ok tt) → IsJudged (general_signer keys policy expected parts).gives (Ok tt)
  signed_general is = signer_gives (Ok tt) (inl (tt, subst (λ (l : List Raw). (trusted_among keys expected parts l).gives (Ok tt)) same is, refl))

  refused_general : (fault : TrustFault) → IsOutcome (trusted_among keys expected parts certificates).gives (Err fault)
      → IsJudged (general_signer keys policy expected parts).gives (Err (request_refusal fault))
  refused_general (Refused refusal) is =
      signer_gives (Err (code_of refusal)) (inr (refusal, subst (λ (l : List Raw). (trusted_among keys expected parts l).gives (Err refusal)) same is, refl))
  refused_general Memory is = tt

  pub refused_general_as : (fault : TrustFault) (refusal : Refusal) → refusal ≡ request_refusal fault → IsOutcome (trusted_among keys expected parts certificates).gives (Err fault)
      → IsJudged (general_signer keys policy expected parts).gives (Err refusal)
  refused_general_as fault refusal is outcome =
      subst (λ (r : Refusal). IsJudged (general_signer keys policy expected parts).gives (Err r)) (sym is) (refused_general fault outcome)

-- beside rsaEncryption the digest algorithm names the algorithm, and else it stays
pub under_other : (digest : DigestAlgorithm) (algorithm : AlgorithmIdentifier) → pointwise nat_eq (oid_content algorithm.algorithm.0) RSA_ENCRYPTION ≡ false
    → signature_under digest algorithm ≡ algorithm
under_other digest algorithm other = ap (λ (is : Bool). if is then unwrap_or (rsa_beside digest) algorithm else algorithm) other

pub under_rsa : (digest : DigestAlgorithm) (algorithm : AlgorithmIdentifier) → pointwise nat_eq (oid_content algorithm.algorithm.0) RSA_ENCRYPTION ≡ true
    → signature_under digest algorithm ≡ unwrap_or (rsa_beside digest) algorithm
under_rsa digest algorithm is = ap (λ (is : Bool). if is then unwrap_or (rsa_beside digest) algorithm else algorithm) is

-- by which of its functions a key verifies
module _ (keys : KeysRecord) (certificate : Certificate) (parts : GeneralParts) (algorithm : AlgorithmIdentifier) where
  abbrev key : SubjectPublicKeyInfo
  key = certificate.tbs_certificate.subject_public_key_info

  abbrev text : Bytes
  text = as_set (attributes_bytes parts.info)

  abbrev chosen : Bool → Bool
  chosen is = if is then keys.verifies_sha1 key text (signature_of parts.info) else keys.verifies key algorithm text (signature_of parts.info)

  pub verifies_by_sha1 : (result : Bool) (covered signature : Bytes) → covered ≡ text → signature ≡ signature_of parts.info → result ≡ keys.verifies_sha1 key covered signature
      → is_by_sha1 parts algorithm ≡ true → result ≡ verifies_by keys certificate parts algorithm
  verifies_by_sha1 result covered signature same_text same_signature is by =
      let there : keys.verifies_sha1 key covered signature ≡ chosen true = λ i. keys.verifies_sha1 key (same_text i) (same_signature i) in
      is ∙ there ∙ ap chosen (sym by)

  pub verifies_by_itself : (result : Bool) (covered signature : Bytes) → covered ≡ text → signature ≡ signature_of parts.info → result ≡ keys.verifies key algorithm covered signature
      → is_by_sha1 parts algorithm ≡ false → result ≡ verifies_by keys certificate parts algorithm
  verifies_by_itself result covered signature same_text same_signature is by =
      let there : keys.verifies key algorithm covered signature ≡ chosen false = λ i. keys.verifies key algorithm (same_text i) (same_signature i) in
      is ∙ there ∙ ap chosen (sym by)
