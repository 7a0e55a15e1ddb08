-- What a client makes of a reply by certificate has an outcome: each part of the table has one.
use Rattle.std.proofs.Common.{Bool, true, false, not, Result, Ok, Err, refl, inl, inr}
use Rattle.std.specs.Bool.{nat_eq}
use Rattle.std.specs.Cmp.Lexicographic.{pointwise}
use Rattle.picky_asn1_der.specs.Raw.{Raw}
use Rattle.picky_asn1.specs.Bytes.{Bytes}
use Rattle.picky_asn1.specs.Integer.{integer_content}
use Rattle.picky_asn1.specs.Numbers.{is_number}
use Rattle.sha2.specs.Sha256.{sha256}
use Rattle.decision_tables.specs.Tables.{Table, and_then, and_then_told, ask, done, need, refuse}
use Rattle.decision_tables.proofs.Outcomes.{HasOutcome, has_asked, has_done, has_needed, has_refused}
use Rattle.x509_keys.specs.KeyFunctions.{KeysRecord}
use Rattle.x509_keys.specs.KeyFunctions.TheirValue.{ValueBits}
use Rattle.cms_signed_data.specs.SignedContents.{IsSignedContent}
use Rattle.cms_signed_data.specs.SignedLaws.{one_content}
use Rattle.cms_signed_data.specs.SignedParts.{SignedParts, content_of}
use Rattle.krb_messages.specs.Names.{components, is_same_name, is_same_realm}
use Rattle.pkinit_messages.specs.declared.kdc_dh_key_info.KdcDhKeyInfo.{KdcDhKeyInfo}
use Rattle.pkinit_messages.specs.declared.pa_pk_as_rep.PaPkAsRep.{PaPkAsRep}
use Rattle.pkinit_validation.specs.Accepted.{accepted, has_unrecognised, is_valid_at, issued}
use Rattle.pkinit_validation.specs.Certificates.{IsCertificate, ReadRecord, name_bytes, sole_certificate}
use Rattle.pkinit_validation.specs.Expected.{ExpectedRecord}
use Rattle.pkinit_validation.specs.Judged.{JudgedRecord}
use Rattle.pkinit_validation.specs.Principals.{IsPrincipal, element_of, named, sole_principal}
use Rattle.pkinit_validation.specs.SignedContents.{judged_in}
use Rattle.pkinit_validation.specs.Signers.{signed_by as signed_by_holder}
use Rattle.pkinit_validation.specs.Trusted.{trusted, trusted_by}
use Rattle.pkinit_validation.specs.declared.principal_name.Krb5PrincipalName.{Krb5PrincipalName}
use Rattle.pkinit_validation.specs.declared.refusal.TrustRefusal.{TrustRefusal}
use Rattle.pkinit_validation.specs.declared.refusal.TrustRefusal.TheVariants.{CantVerifyCertificate, InvalidCertificate, InvalidSignature, NameMismatch}
use Rattle.pkinit_clients.specs.Asked.{PkinitAskedRecord, expected_realm}
use Rattle.pkinit_clients.specs.Faults.{Secret}
use Rattle.pkinit_clients.specs.Replies.{IsKdcDhKeyInfo, IsPaPkAsRep, is_dh_key_data, of_content, of_key_data, of_key_info, of_reply, of_signed, secret_of, signed_by, signed_in, sole_kdc_dh_key_info, sole_pa_pk_as_rep}
use Rattle.pkinit_clients.specs.declared.fault.ReplyFault.TheVariants.{NotTrusted}

-- the whole has the outcome of its first part where that part decides
follows : {A T E F : Type 0} (told : E → F) (t : Table (Result A E)) (rest : A → Table (Result T F)) → ((s : Result T F) → (and_then_told {A = A} {T = T} {E = E} {F = F} told t rest).gives s → ⊥)
    → ((a : A) → t.gives (Ok a) → HasOutcome (rest a)) → (r : Result A E) → t.gives r → ⊥
follows told t rest none each (Ok a) x = each a x (λ s y. none s (inl (a, x, y)))
follows told t rest none each (Err error) x = none (Err (told error)) (inr (error, x, refl))

has_told : {A T E F : Type 0} (told : E → F) (t : Table (Result A E)) (rest : A → Table (Result T F)) → HasOutcome t → ((a : A) → t.gives (Ok a) → HasOutcome (rest a))
    → HasOutcome (and_then_told {A = A} {T = T} {E = E} {F = F} told t rest)
has_told told t rest some each = λ none. some (follows told t rest none each)

-- a row of refusals
four : {T E : Type 0} (a b c d : Bool) (v w x y : E) (last : T) → HasOutcome (refuse {T = T} {E = E} a v (refuse b w (refuse c x (refuse d y (done (Ok last))))))
four true b c d v w x y last = has_done (Err v)
four false true c d v w x y last = has_done (Err w)
four false false true d v w x y last = has_done (Err x)
four false false false true v w x y last = has_done (Err y)
four false false false false v w x y last = has_done (Ok last)

two : {T E : Type 0} (a b : Bool) (v w : E) (last : T) → HasOutcome (refuse {T = T} {E = E} a v (refuse b w (done (Ok last))))
two true b v w last = has_done (Err v)
two false true v w last = has_done (Err w)
two false false v w last = has_done (Ok last)

module _ (keys : KeysRecord) (expected : ExpectedRecord) where
  abbrev named_as : Krb5PrincipalName → Table (Result (Unit {0}) TrustRefusal)
  named_as principal =
      refuse (not (is_same_realm principal.realm.0 expected.realm)) NameMismatch
      (refuse (not (is_same_name (components principal.principal_name.0) expected.name)) NameMismatch (done (Ok tt)))

  abbrev named_in : Raw → Table (Result (Unit {0}) TrustRefusal)
  named_in element = ask (IsPrincipal element) (sole_principal element) (done (Err NameMismatch)) named_as

  has_named : (read : ReadRecord) → HasOutcome (named expected read.certificate)
  has_named read =
      has_needed (element_of read.certificate) NameMismatch named_in
      (λ element _. has_asked (IsPrincipal element) (sole_principal element) (done (Err NameMismatch)) named_as (has_done (Err NameMismatch))
      (λ principal _. two (not (is_same_realm principal.realm.0 expected.realm)) (not (is_same_name (components principal.principal_name.0) expected.name)) NameMismatch NameMismatch tt))

  has_issued : (read : ReadRecord) → HasOutcome (issued keys expected read)
  has_issued read =
      four (not (is_valid_at expected.moment read.certificate.tbs_certificate.validity)) (not (pointwise nat_eq (name_bytes read.certificate.tbs_certificate.issuer) expected.anchor.subject))
      (has_unrecognised read.certificate) (not (keys.verifies expected.anchor.key read.certificate.signature_algorithm read.signed read.certificate.signature_value.octets))
      InvalidCertificate CantVerifyCertificate CantVerifyCertificate CantVerifyCertificate tt

  has_accepted : (read : ReadRecord) → HasOutcome (accepted keys expected read)
  has_accepted read = has_told (λ refusal. refusal) (issued keys expected read) (λ _. named expected read.certificate) (has_issued read) (λ _ _. has_named read)

  has_signer : (read : ReadRecord) (judged : JudgedRecord) → HasOutcome (signed_by_holder keys read.certificate judged)
  has_signer read judged =
      four (not (pointwise nat_eq (name_bytes read.certificate.tbs_certificate.issuer) (name_bytes judged.issuer)))
      (not (pointwise nat_eq (integer_content read.certificate.tbs_certificate.serial_number) (integer_content judged.serial)))
      (not (pointwise nat_eq (sha256 judged.content) judged.digest)) (not (keys.verifies read.certificate.tbs_certificate.subject_public_key_info judged.algorithm judged.covered judged.signature))
      InvalidSignature InvalidSignature InvalidSignature InvalidSignature tt

  pub has_trusted : (judged : JudgedRecord) → HasOutcome (trusted keys expected judged)
  has_trusted judged =
      has_asked (IsCertificate judged.certificate) (sole_certificate judged.certificate) (done (Err CantVerifyCertificate)) (trusted_by keys expected judged) (has_done (Err CantVerifyCertificate))
      (λ read _. has_told (λ refusal. refusal) (accepted keys expected read) (λ _. signed_by_holder keys read.certificate judged) (has_accepted read) (λ _ _. has_signer read judged))

  has_signed_by : (content : SignedParts) → HasOutcome (signed_by keys expected content)
  has_signed_by content = has_told (λ refusal. NotTrusted) (trusted keys expected (judged_in content)) (λ _. done (Ok tt)) (has_trusted (judged_in content)) (λ _ _. has_done (Ok tt))

module _ (keys : KeysRecord) (asked : PkinitAskedRecord) where
  abbrev agreed : KdcDhKeyInfo → Table Secret
  agreed info = need (keys.agree (ValueBits info.subject_public_key.0) asked.words) NotTrusted (λ secret. done (Ok secret))

  has_key_info : (info : KdcDhKeyInfo) → HasOutcome (of_key_info keys asked info)
  has_key_info info =
      has_refused (not (is_number asked.nonce info.nonce.0)) NotTrusted (agreed info)
      (λ _. has_needed (keys.agree (ValueBits info.subject_public_key.0) asked.words) NotTrusted (λ secret. done (Ok secret)) (λ secret _. has_done (Ok secret)))

  has_key_data : (bytes : Bytes) → HasOutcome (of_key_data keys asked bytes)
  has_key_data bytes =
      has_asked (IsKdcDhKeyInfo bytes) (sole_kdc_dh_key_info bytes) (done (Err NotTrusted)) (of_key_info keys asked) (has_done (Err NotTrusted)) (λ info _. has_key_info info)

  has_content : (content : SignedParts) → HasOutcome (of_content keys asked content)
  has_content content =
      has_refused (not (is_dh_key_data content)) NotTrusted (and_then (signed_by keys (expected_realm asked) content) (λ _. of_key_data keys asked (content_of content.info)))
      (λ _. has_told (λ fault. fault) (signed_by keys (expected_realm asked) content) (λ _. of_key_data keys asked (content_of content.info))
      (has_signed_by keys (expected_realm asked) content) (λ _ _. has_key_data (content_of content.info)))

  has_signed : (bytes : Bytes) → HasOutcome (of_signed keys asked bytes)
  has_signed bytes =
      has_asked (IsSignedContent bytes) (one_content bytes) (done (Err NotTrusted)) (of_content keys asked) (has_done (Err NotTrusted)) (λ content _. has_content content)

  has_reply : (reply : PaPkAsRep) → HasOutcome (of_reply keys asked reply)
  has_reply reply = has_needed (signed_in reply) NotTrusted (of_signed keys asked) (λ bytes _. has_signed bytes)

  -- the whole table
  pub has_secret : (padata : Bytes) → HasOutcome (secret_of keys asked padata)
  unfolding secret_of
  has_secret padata =
      has_asked (IsPaPkAsRep padata) (sole_pa_pk_as_rep padata) (done (Err NotTrusted)) (of_reply keys asked) (has_done (Err NotTrusted)) (λ reply _. has_reply reply)
