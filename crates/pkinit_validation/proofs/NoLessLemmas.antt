-- A policy takes no less: what is granted without one is granted with one, with the same secret and the same reply.
use Rattle.std.proofs.Common.{◌≡◌, ℕ, Bool, true, false, List, [], ◌∷◌, ◌++◌, Result, Ok, Err, refl, sym, ap, ◌∙◌, subst, inl, inr, eq-eqb}
use Rattle.std.specs.Prelude.{not, ◌==◌, ◌&&◌, ◌||◌, if◌then◌else◌}
use Rattle.std.specs.Bool.{nat_eq}
use Rattle.std.specs.Cmp.Lexicographic.{pointwise}
use Rattle.sha2.specs.Sha256.{sha256}
use Rattle.asn1_der.specs.Length.{element}
use Rattle.asn1_der.specs.Octets.{integer_octet, sequence_octet}
use Rattle.asn1_der.specs.Tree.{der}
use Rattle.asn1_der.proofs.Elements.{element-one}
use Rattle.asn1_leaves.specs.ObjectIdentifier.{oid_content}
use Rattle.picky_asn1.specs.Bytes.{Bytes}
use Rattle.picky_asn1.specs.Integer.{integer_content}
use Rattle.picky_asn1_der.specs.Raw.{Raw}
use Rattle.picky_asn1_der.specs.Splits.{raw_bytes}
use Rattle.decision_tables.specs.One.{IsSole, same_parts}
use Rattle.decision_tables.specs.Tables.{Table, and_then, and_then_told, ask, done, need, refuse}
use Rattle.krb_constants.specs.declared.error_codes.TheConstants.{KDC_ERR_DIGEST_IN_SIGNED_DATA_NOT_ACCEPTED, KDC_ERR_PADATA_TYPE_NOSUPP, KDC_ERR_PREAUTH_FAILED}
use Rattle.krb_messages.specs.Refusals.{Code}
use Rattle.krb_kdc_exchanges.specs.PkinitCalls.{AgreedRecord, PkinitCallRecord}
use Rattle.x509_algorithms.specs.declared.algorithm_identifier.AlgorithmIdentifier.{AlgorithmIdentifier}
use Rattle.x509_certificates.specs.declared.certificate.Certificate.{Certificate}
use Rattle.x509_codec.specs.Covered.{as_set}
use Rattle.x509_keys.specs.KeyFunctions.{KeysRecord}
use Rattle.cms_signed_data.specs.Digests.{digest_by}
use Rattle.cms_signed_data.specs.declared.general_form.digest_algorithm.DigestAlgorithm.{DigestAlgorithm}
use Rattle.cms_signed_data.specs.SignedContents.{IsSignedContent}
use Rattle.cms_signed_data.specs.SignedLaws.{one_content}
use Rattle.cms_signed_data.specs.SignedParts as one
use Rattle.cms_signed_data.specs.SignedParts.{SignedParts}
use Rattle.cms_signed_data.specs.Written.{id_of, id_tree}
use Rattle.cms_signed_data.specs.declared.signer_info.IssuerAndSerialNumber.{IssuerAndSerialNumber}
use Rattle.cms_signed_data.specs.GeneralContents.{GeneralParts, attributes_bytes, content_of, signature_of}
use Rattle.cms_signed_data.specs.Identifiers.{id_content, key_id_of, names, names_by_key, names_by_serial}
use Rattle.cms_signed_data.specs.OneForm.{IsSameData}
use Rattle.pkinit_messages.specs.declared.auth_pack.AuthPack.{AuthPack}
use Rattle.pkinit_messages.specs.AuthPacks as agile
use Rattle.pkinit_validation.specs.Accepted.{accepted}
use Rattle.pkinit_validation.specs.Anchors.{AnchorRecord}
use Rattle.pkinit_validation.specs.AuthPacks as realm
use Rattle.pkinit_validation.specs.Certificates.{IsCertificate, name_bytes, sole_certificate}
use Rattle.pkinit_validation.specs.Expected.{ExpectedRecord}
use Rattle.pkinit_validation.specs.Judged.{JudgedRecord}
use Rattle.pkinit_validation.specs.Judging.{JudgingRecord, judging_by}
use Rattle.pkinit_validation.specs.PkinitTable.{agreed_on, auth_pack_fields, is_auth_data, of_auth_pack, of_content, of_request, of_signed, pkinit_table, signed_by_client}
use Rattle.pkinit_validation.specs.Refusals.{code_of}
use Rattle.pkinit_validation.specs.SignedContents.{judged_in}
use Rattle.pkinit_validation.specs.Signers.{signed_by}
use Rattle.pkinit_validation.specs.Trust.{TrustRecord}
use Rattle.pkinit_validation.specs.Trusted.{trusted, trusted_by}
use Rattle.pkinit_validation.specs.declared.refusal.TrustRefusal.{TrustRefusal}
use Rattle.pkinit_validation.specs.declared.refusal.TrustRefusal.TheVariants.{CantVerifyCertificate, InvalidSignature}
use Rattle.pkinit_validation.specs.GeneralTable.{general_table, is_general_auth_data, of_general_content, of_general_pack, of_general_request}
use Rattle.pkinit_validation.specs.GeneralTrust.{certificates_of, general_signed_by, general_signer, is_sha1, sid_of, signature_under, takes_digest, trusted_among, verifies_under}
use Rattle.pkinit_validation.specs.Widened.{fields_widened, pack_widened}
use Rattle.pkinit_validation.specs.declared.policies.policy.GeneralPolicy.{GeneralPolicy}
use Rattle.pkinit_validation.specs.declared.policies.signer.TheConstants.{RSA_ENCRYPTION, SHA1_WITH_RSA}
use Rattle.pkinit_validation.specs.declared.table.TheConstants.{AUTH_DATA}
use Rattle.pkinit_validation.proofs.WidenedLemmas.{are_judged_alike, by_need, by_refuse, is_widened, past_need, past_refuse}
use Rattle.cms_signed_data.proofs.OneFormLemmas.{is_general, same_itself, same_list}

-- what a table gave without an error: each value was there
found : {A T E : Type 0} (P : A → Type 0) (sole : IsSole P) (error : E) (rest : A → Table (Result T E)) (r : T)
    → (ask P sole (done (Err error)) rest).gives (Ok r) → (a : A) × P a × (rest a).gives (Ok r)
found P sole error rest r (inl x) = x
found P sole error rest r (inr x) = absurd (same_parts (Ok r) (Err error) x.1)

went_on : {A T E : Type 0} (t : Table (Result A E)) (rest : A → Table (Result T E)) (r : T) → (and_then t rest).gives (Ok r)
    → (a : A) × t.gives (Ok a) × (rest a).gives (Ok r)
went_on t rest r (inl x) = x
went_on t rest r (inr x) = absurd (same_parts (Ok r) (Err x.0) x.2)

went_on_told : {A T E F : Type 0} (told : E → F) (t : Table (Result A E)) (rest : A → Table (Result T F)) (r : T) → (and_then_told told t rest).gives (Ok r)
    → (a : A) × t.gives (Ok a) × (rest a).gives (Ok r)
went_on_told told t rest r (inl x) = x
went_on_told told t rest r (inr x) = absurd (same_parts (Ok r) (Err (told x.0)) x.2)

holds : (b : Bool) → not b ≡ false → b ≡ true
holds true e = refl
holds false e = absurd (cc (e))

-- an issuer and a serial number are written together as they are each
same_id : (a b : IssuerAndSerialNumber) → name_bytes a.issuer ≡ name_bytes b.issuer → integer_content a.serial_number ≡ integer_content b.serial_number
    → der (id_tree a) ≡ der (id_tree b)
unfolding name_bytes
same_id a b issuers serials = λ i. element sequence_octet (issuers i ++ (element integer_octet (serials i) ++ []))

-- a sid that is the DER of a certificate's issuer and serial number names it
named_so : (sid : Raw) (certificate : Certificate) → raw_bytes sid ≡ der (id_tree (id_of certificate)) → names_by_serial sid certificate ≡ true
unfolding id_content names_by_serial
named_so sid certificate is =
    let content : Bytes = id_content (id_of certificate) in
    let parts = element-one sid.first sequence_octet sid.content content [] [] (ap (λ (l : List ℕ). l ++ []) is) in
    let first : (sid.first == sequence_octet) ≡ true = eq-eqb sid.first sequence_octet parts.0 in
    let same : pointwise nat_eq sid.content content ≡ true = subst (λ (l : List ℕ). pointwise nat_eq l content ≡ true) (sym parts.1) (same_itself content) in
    λ i. first i && same i

-- beside SHA-256 rsaEncryption stays
either_way : (b : Bool) (algorithm : AlgorithmIdentifier) → (if b then algorithm else algorithm) ≡ algorithm
either_way true algorithm = refl
either_way false algorithm = refl

-- The signer of signed data of the one form is that of the general form.
module _ (keys : KeysRecord) (expected : ExpectedRecord) (content : SignedParts) (general : GeneralParts) (same : IsSameData content general) where
  abbrev judged : JudgedRecord
  judged = judged_in content

  same_algorithm : (algorithm : AlgorithmIdentifier) → signature_under general.algorithm algorithm ≡ algorithm
  same_algorithm algorithm =
      ap (λ (digest : DigestAlgorithm). signature_under digest algorithm) same.algorithm
      ∙ either_way (pointwise nat_eq (oid_content algorithm.algorithm.0) RSA_ENCRYPTION) algorithm

  same_digest : pointwise nat_eq (digest_by general.algorithm (content_of general.info)) general.digest ≡ pointwise nat_eq (sha256 judged.content) judged.digest
  same_digest = λ i. pointwise nat_eq (digest_by (same.algorithm i) (same.encapsulated i).content.0) (same.digest i)

  -- what the digest algorithm decides
  abbrev by_hash : Certificate → DigestAlgorithm → Bool
  by_hash certificate digest =
      if is_sha1 digest && pointwise nat_eq (oid_content (signature_under general.algorithm judged.algorithm).algorithm.0) SHA1_WITH_RSA
      then keys.verifies_sha1 certificate.tbs_certificate.subject_public_key_info (as_set (attributes_bytes general.info)) (signature_of general.info)
      else keys.verifies certificate.tbs_certificate.subject_public_key_info (signature_under general.algorithm judged.algorithm) (as_set (attributes_bytes general.info))
      (signature_of general.info)

  same_verified : (certificate : Certificate)
      → verifies_under keys certificate general judged.algorithm
      ≡ keys.verifies certificate.tbs_certificate.subject_public_key_info judged.algorithm judged.covered judged.signature
  same_verified certificate =
      ap (by_hash certificate) same.algorithm
      ∙ (λ i. keys.verifies certificate.tbs_certificate.subject_public_key_info (same_algorithm judged.algorithm i) (as_set (same.attributes i)) (same.signature i))

  -- the rows behind the issuer, the serial number and the digest
  abbrev by_signature : Certificate → Table (Result (Unit {0}) TrustRefusal)
  by_signature certificate =
      refuse (not (keys.verifies certificate.tbs_certificate.subject_public_key_info judged.algorithm judged.covered judged.signature)) InvalidSignature (done (Ok tt))

  abbrev by_digest : Certificate → Table (Result (Unit {0}) TrustRefusal)
  by_digest certificate = refuse (not (pointwise nat_eq (sha256 judged.content) judged.digest)) InvalidSignature (by_signature certificate)

  abbrev by_serial : Certificate → Table (Result (Unit {0}) TrustRefusal)
  by_serial certificate =
      refuse (not (pointwise nat_eq (integer_content certificate.tbs_certificate.serial_number) (integer_content judged.serial))) InvalidSignature (by_digest certificate)

  -- the signer names the certificate, and its holder signed the content
  pub signs : (certificate : Certificate) → (signed_by keys certificate judged).gives (Ok tt)
      → (names (sid_of general) certificate ≡ true) × (general_signed_by keys certificate general).gives (Ok tt)
  signs certificate x =
      let issuers = pointwise nat_eq (name_bytes certificate.tbs_certificate.issuer) (name_bytes judged.issuer) in
      let serials = pointwise nat_eq (integer_content certificate.tbs_certificate.serial_number) (integer_content judged.serial) in
      let digests = pointwise nat_eq (sha256 judged.content) judged.digest in
      let verified = keys.verifies certificate.tbs_certificate.subject_public_key_info judged.algorithm judged.covered judged.signature in
      let issuer = past_refuse {T = Unit {0}} {E = TrustRefusal} (not issuers) InvalidSignature (by_serial certificate) tt x in
      let serial = past_refuse {T = Unit {0}} {E = TrustRefusal} (not serials) InvalidSignature (by_digest certificate) tt issuer.1 in
      let digest = past_refuse {T = Unit {0}} {E = TrustRefusal} (not digests) InvalidSignature (by_signature certificate) tt serial.1 in
      let signature = past_refuse {T = Unit {0}} {E = TrustRefusal} (not verified) InvalidSignature (done (Ok tt)) tt digest.1 in
      let ids =
      same_id (id_of certificate) content.info.content.0.signer_infos.0.sid (same_list (name_bytes certificate.tbs_certificate.issuer) (name_bytes judged.issuer) (holds issuers issuer.0))
      (same_list (integer_content certificate.tbs_certificate.serial_number) (integer_content judged.serial) (holds serials serial.0)) in
      let by_serial_number : names_by_serial (sid_of general) certificate ≡ true = named_so (sid_of general) certificate (same.sid ∙ sym ids) in
      let algorithm = same.signature_algorithm in
      let last : (refuse (not (verifies_under keys certificate general judged.algorithm)) InvalidSignature (done (Ok tt))).gives (Ok tt) =
      by_refuse {T = Unit {0}} {E = TrustRefusal} (not (verifies_under keys certificate general judged.algorithm)) InvalidSignature (done (Ok tt)) (Ok tt)
      (ap not (same_verified certificate) ∙ signature.0) refl in (
        λ i. by_serial_number i || names_by_key (sid_of general) (key_id_of certificate),
        by_refuse {T = Unit {0}} {E = TrustRefusal} (not (pointwise nat_eq (digest_by general.algorithm (content_of general.info)) general.digest)) InvalidSignature _ (Ok tt)
            (ap not same_digest ∙ digest.0) (inl (judged.algorithm, algorithm, last)),
      )

  pub signer_trusted : (policy : GeneralPolicy) → (signed_by_client keys expected content).gives (Ok tt) → (general_signer keys policy expected general).gives (Ok tt)
  signer_trusted policy x =
      let trust = went_on_told {A = Unit {0}} {T = Unit {0}} {E = TrustRefusal} {F = Code} code_of (trusted keys expected judged) (λ _. done (Ok tt)) tt x in
      let read = found (IsCertificate content.certificate) (sole_certificate content.certificate) CantVerifyCertificate (trusted_by keys expected judged) tt trust.1 in
      let accepts = went_on {A = Unit {0}} {T = Unit {0}} {E = TrustRefusal} (accepted keys expected read.0) (λ _. signed_by keys read.0.certificate judged) tt read.2 in
      let shown = signs read.0.certificate accepts.2 in
      let raw = same.certificates.0 in
      let is_read : IsCertificate (raw_bytes raw) read.0 = subst (λ (l : Bytes). IsCertificate l read.0) (sym same.certificates.2) read.1 in
      let among_one : (trusted_among keys expected general (raw ∷ [])).gives (Ok tt) = inl (read.0, record { is = is_read; named = shown.0 }, inl (tt, accepts.1, shown.1)) in
      let among : (trusted_among keys expected general (certificates_of general)).gives (Ok tt) =
      subst (λ (l : List Raw). (trusted_among keys expected general l).gives (Ok tt)) (sym same.certificates.1) among_one in
      by_refuse {T = Unit {0}} {E = Code} (not (takes_digest policy general.algorithm)) KDC_ERR_DIGEST_IN_SIGNED_DATA_NOT_ACCEPTED
      (and_then_told code_of (trusted_among keys expected general (certificates_of general)) (λ _. done (Ok tt))) (Ok tt)
      (ap (λ (digest : DigestAlgorithm). not (takes_digest policy digest)) same.algorithm) (inl (tt, among, refl))

  -- The same is agreed on.
  pub pack_granted : (judging : JudgingRecord) → judging.expected ≡ expected → (policy : GeneralPolicy) (pack : AuthPack Raw) (agreed : AgreedRecord)
      → (of_auth_pack keys judging content pack).gives (Ok agreed) → (of_general_pack keys policy judging general (pack_widened pack)).gives (Ok agreed)
  pack_granted judging e policy pack agreed x =
      let fields = went_on (auth_pack_fields judging.body pack) (λ fields. and_then (signed_by_client keys judging.expected content) (λ _. agreed_on keys judging fields)) agreed x in
      let signer = went_on {A = Unit {0}} (signed_by_client keys judging.expected content) (λ _. agreed_on keys judging fields.0) agreed fields.2 in
      let trusted_there = signer_trusted policy (subst (λ (other : ExpectedRecord). (signed_by_client keys other content).gives (Ok tt)) e signer.1) in
      inl (
        fields_widened fields.0,
        are_judged_alike judging.body pack fields.0 fields.1,
        inl (tt, subst (λ (other : ExpectedRecord). (general_signer keys policy other general).gives (Ok tt)) (sym e) trusted_there, signer.2),
      )

-- the type is that of an AuthPack
abbrev is_auth_type : List ℕ → Bool
is_auth_type arcs = pointwise nat_eq (oid_content arcs) AUTH_DATA

pub content_granted : (keys : KeysRecord) (policy : GeneralPolicy) (judging : JudgingRecord) (content : SignedParts) (general : GeneralParts) → IsSameData content general
    → (agreed : AgreedRecord) → (of_content keys judging content).gives (Ok agreed) → (of_general_content keys policy judging general).gives (Ok agreed)
content_granted keys policy judging content general same agreed x =
    let bytes = one.content_of content.info in
    let typed =
    past_refuse {T = AgreedRecord} {E = Code} (not (is_auth_data content)) KDC_ERR_PREAUTH_FAILED
    (ask (realm.IsAuthPack bytes) (realm.sole_auth_pack bytes) (done (Err KDC_ERR_PREAUTH_FAILED)) (of_auth_pack keys judging content)) agreed x in
    let pack = found (realm.IsAuthPack bytes) (realm.sole_auth_pack bytes) KDC_ERR_PREAUTH_FAILED (of_auth_pack keys judging content) agreed typed.1 in
    let same_type : is_general_auth_data general ≡ is_auth_data content = ap (λ held. is_auth_type held.content_type.0) same.encapsulated in
    let same_bytes : content_of general.info ≡ bytes = λ i. (same.encapsulated i).content.0 in
    let is_pack : agile.IsExtensibleAuthPack (content_of general.info) (pack_widened pack.0) =
    subst (λ (l : Bytes). agile.IsExtensibleAuthPack l (pack_widened pack.0)) (sym same_bytes) (is_widened bytes pack.0 pack.1) in
    by_refuse {T = AgreedRecord} {E = Code} (not (is_general_auth_data general)) KDC_ERR_PREAUTH_FAILED
    (ask (agile.IsExtensibleAuthPack (content_of general.info)) (agile.sole_extensible_auth_pack (content_of general.info)) (done (Err KDC_ERR_PREAUTH_FAILED)) (of_general_pack keys policy judging general))
    (Ok agreed) (ap not same_type ∙ typed.0)
    (inl (pack_widened pack.0, is_pack, pack_granted keys judging.expected content general same judging refl policy pack.0 agreed pack.2))

pub request_granted : (keys : KeysRecord) (policy : GeneralPolicy) (judging : JudgingRecord) (padata : Bytes) (agreed : AgreedRecord)
    → (of_request keys judging padata).gives (Ok agreed) → (of_general_request keys policy judging padata).gives (Ok agreed)
request_granted keys policy judging padata agreed x =
    let request = found (realm.IsPaPkAsReq padata) (realm.sole_pa_pk_as_req padata) KDC_ERR_PREAUTH_FAILED (λ request. of_signed keys judging request.signed_auth_pack.0) agreed x in
    let bytes = request.0.signed_auth_pack.0 in
    let content = found (IsSignedContent bytes) (one_content bytes) KDC_ERR_PREAUTH_FAILED (of_content keys judging) agreed request.2 in
    let general = is_general bytes content.0 content.1 in
    inl (request.0, request.1, inl (general.0, general.1, content_granted keys policy judging content.0 general.0 general.2 agreed content.2))

-- the rows behind the anchor
abbrev behind_anchor : KeysRecord → TrustRecord → PkinitCallRecord → Bytes → AnchorRecord → Table (Result AgreedRecord Code)
behind_anchor keys trust call padata anchor =
    need trust.certificate KDC_ERR_PADATA_TYPE_NOSUPP (λ certificate. of_request keys (judging_by call anchor certificate) padata)

abbrev behind_anchor_general : KeysRecord → GeneralPolicy → TrustRecord → PkinitCallRecord → Bytes → AnchorRecord → Table (Result AgreedRecord Code)
behind_anchor_general keys policy trust call padata anchor =
    need trust.certificate KDC_ERR_PADATA_TYPE_NOSUPP (λ certificate. of_general_request keys policy (judging_by call anchor certificate) padata)

-- what is granted without a policy is granted with one
pub table_granted : (keys : KeysRecord) (policy : GeneralPolicy) (trust : TrustRecord) (call : PkinitCallRecord) (padata : Bytes) (agreed : AgreedRecord)
    → (pkinit_table keys trust call padata).gives (Ok agreed) → (general_table keys policy trust call padata).gives (Ok agreed)
unfolding pkinit_table general_table
table_granted keys policy trust call padata agreed x =
    let anchor = past_need trust.anchor KDC_ERR_PADATA_TYPE_NOSUPP (behind_anchor keys trust call padata) agreed x in
    let certificate = past_need trust.certificate KDC_ERR_PADATA_TYPE_NOSUPP (λ certificate. of_request keys (judging_by call anchor.0 certificate) padata) agreed anchor.2 in
    by_need trust.anchor KDC_ERR_PADATA_TYPE_NOSUPP (behind_anchor_general keys policy trust call padata) anchor.0 (Ok agreed) anchor.1
    (by_need trust.certificate KDC_ERR_PADATA_TYPE_NOSUPP (λ certificate. of_general_request keys policy (judging_by call anchor.0 certificate) padata) certificate.0 (Ok agreed) certificate.1
    (request_granted keys policy (judging_by call anchor.0 certificate.0) padata agreed certificate.2))
