-- An exchange by certificate that ends with one secret is honest: what client and realm judge of one another shows it.
use Rattle.std.proofs.Common.{◌≡◌, Bool, true, false, Option, None, Some, Result, Ok, Err, inl, inr, refl, sym, ap, ◌∙◌, subst}
use Rattle.std.specs.Prelude.{ℤ, not}
use Rattle.std.specs.Bool.{nat_eq}
use Rattle.std.specs.Cmp.Lexicographic.{pointwise}
use Rattle.sha2.specs.Sha256.{sha256}
use Rattle.picky_asn1_der.specs.Raw.{Raw}
use Rattle.picky_asn1.specs.Bytes.{Bytes}
use Rattle.picky_asn1.specs.Integer.{integer_content}
use Rattle.picky_asn1.specs.Numbers.{is_number}
use Rattle.decision_tables.specs.One.{IsSole, same_parts}
use Rattle.decision_tables.specs.Tables.{Table, and_then, and_then_told, ask, done, need, refuse}
use Rattle.x509_certificates.specs.declared.certificate.Certificate.{Certificate}
use Rattle.krb_time.specs.Skew.{is_far}
use Rattle.krb_time.specs.SecondOf.{sole_second}
use Rattle.krb_constants.specs.declared.error_codes.TheConstants.{KDC_ERR_KEY_TOO_WEAK}
use Rattle.krb_constants.specs.declared.error_codes.TheConstants.{KDC_ERR_PADATA_TYPE_NOSUPP, KDC_ERR_PREAUTH_FAILED, KRB_AP_ERR_SKEW, KRB_ERR_GENERIC}
use Rattle.krb_messages.specs.Refusals.{Code}
use Rattle.krb_kdc_exchanges.specs.PkinitCalls.{AgreedRecord, PkinitCallRecord}
use Rattle.x509_keys.specs.KeyFunctions.{KeysRecord}
use Rattle.x509_keys.specs.KeyFunctions.TheirValue.{ValueBits, WholeValue}
use Rattle.x509_keys.specs.declared.functions.Signed.{Signed}
use Rattle.cms_signed_data.specs.SignedContents.{IsSignedContent}
use Rattle.cms_signed_data.specs.SignedLaws.{one_content}
use Rattle.cms_signed_data.specs.SignedParts.{SignedParts}
use Rattle.cms_signed_data.specs.Written.{IsWritten, signed_bytes}
use Rattle.cms_signed_data.specs.WrittenLaws.{written_is, written_parts}
use Rattle.pkinit_messages.specs.declared.auth_pack.AuthPack.{AuthPack}
use Rattle.pkinit_messages.specs.declared.kdc_dh_key_info.KdcDhKeyInfo.{KdcDhKeyInfo}
use Rattle.pkinit_messages.specs.declared.pa_pk_as_rep.PaPkAsRep.{PaPkAsRep}
use Rattle.pkinit_messages.specs.declared.pa_pk_as_req.PaPkAsReq.{PaPkAsReq}
use Rattle.pkinit_validation.specs.Accepted.{accepted}
use Rattle.pkinit_validation.specs.Anchors.{AnchorRecord}
use Rattle.pkinit_validation.specs.Certificates.{IsCertificate, ReadRecord, name_bytes, sole_certificate}
use Rattle.pkinit_validation.specs.Expected.{ExpectedRecord}
use Rattle.pkinit_validation.specs.Judged.{JudgedRecord}
use Rattle.pkinit_validation.specs.Refusals.{code_of}
use Rattle.pkinit_validation.specs.SignedContents.{judged_in}
use Rattle.pkinit_validation.specs.Signers.{signed_by}
use Rattle.pkinit_validation.specs.Trusted.{trusted, trusted_by}
use Rattle.pkinit_validation.specs.declared.refusal.TrustRefusal.{TrustRefusal}
use Rattle.pkinit_validation.specs.declared.refusal.TrustRefusal.TheVariants.{CantVerifyCertificate, InvalidSignature}
use Rattle.pkinit_validation.specs.AgreementBytes.{agreement_bytes}
use Rattle.pkinit_validation.specs.PublicKeys.{IsPublicKey, sole_public_key}
use Rattle.pkinit_validation.specs.Replies.{dh_key_data, dh_reply_bytes, dh_reply_of, key_info_bytes, key_info_of, pk_as_rep}
use Rattle.cms_signed_data.specs.WrittenOnce.{one_written}
use Rattle.pkinit_validation.specs.declared.public_key.AgreementPublicKey.{AgreementPublicKey}
use Rattle.pkinit_validation.specs.AuthPackFields.{AuthPackFieldsRecord}
use Rattle.pkinit_validation.specs.AuthPacks.{IsAuthPack, IsPaPkAsReq, sole_auth_pack, sole_pa_pk_as_req}
use Rattle.pkinit_validation.specs.Judging.{JudgingRecord, judging_by}
use Rattle.pkinit_validation.specs.PkinitTable.{agreed_on, auth_pack_fields, is_auth_data, of_auth_pack, of_content, of_request, of_signed, pkinit_table, signed_by_client}
use Rattle.pkinit_validation.specs.Trust.{TrustRecord}
use Rattle.pkinit_clients.specs.Asked.{PkinitAskedRecord, expected_realm}
use Rattle.pkinit_clients.specs.AuthPacks.{auth_data}
use Rattle.pkinit_clients.specs.Replies as client
use Rattle.pkinit_clients.specs.Requests.{IsPkAsReqOf, pack_bytes, pk_as_req_of}
use Rattle.pkinit_clients.specs.declared.fault.ReplyFault.{ReplyFault}
use Rattle.pkinit_clients.specs.declared.fault.ReplyFault.TheVariants.{NotTrusted}
use Rattle.krb_realm.specs.Agreements.{IsKeyInfoText, IsPackText, IsTrusted}
use Rattle.krb_realm.specs.Exchange.{IsHonestExchange}
use Rattle.krb_realm.specs.Honest.{expected_client}
use Rattle.krb_realm.proofs.Granted as granting
use Rattle.krb_realm.proofs.Taken as taking
use Rattle.krb_realm.proofs.Wholeness.{key_bits, key_element}

-- what a table gave without an error: each row was passed, and each value was there

pub past_refuse : {T E : Type 0} (case : Bool) (error : E) (rest : Table (Result T E)) (r : T) → (refuse case error rest).gives (Ok r) → (case ≡ false) × rest.gives (Ok r)
past_refuse true error rest r x = absurd (same_parts (Ok r) (Err error) x)
past_refuse false error rest r x = (refl, x)

pub needed : {A T E : Type 0} (option : Option A) (error : E) (rest : A → Table (Result T E)) (r : T) → (need option error rest).gives (Ok r)
    → (a : A) × (option ≡ Some a) × (rest a).gives (Ok r)
needed None error rest r x = absurd (same_parts (Ok r) (Err error) x)
needed (Some a) error rest r x = (a, refl, x)

pub found : {A T E : Type 0} (P : A → Type 0) (sole : IsSole P) (error : E) (rest : A → Table (Result T E)) (r : T)
    → (ask P sole (done (Err error)) rest).gives (Ok r) → (a : A) × P a × (rest a).gives (Ok r)
found P sole error rest r (inl x) = x
found P sole error rest r (inr x) = absurd (same_parts (Ok r) (Err error) x.1)

found_as : {A T E : Type 0} (P : A → Type 0) (sole : IsSole P) (error : E) (rest : A → Table (Result T E)) (r : T) (a : A) → P a
    → (ask P sole (done (Err error)) rest).gives (Ok r) → (rest a).gives (Ok r)
found_as P sole error rest r a is x =
    let own = found P sole error rest r x in
    subst (λ b. (rest b).gives (Ok r)) (sole own.0 a own.1 is) own.2

pub went_on : {A T E : Type 0} (t : Table (Result A E)) (rest : A → Table (Result T E)) (r : T) → (and_then t rest).gives (Ok r)
    → (a : A) × t.gives (Ok a) × (rest a).gives (Ok r)
went_on t rest r (inl x) = x
went_on t rest r (inr x) = absurd (same_parts (Ok r) (Err x.0) x.2)

pub went_on_told : {A T E F : Type 0} (told : E → F) (t : Table (Result A E)) (rest : A → Table (Result T F)) (r : T) → (and_then_told told t rest).gives (Ok r)
    → (a : A) × t.gives (Ok a) × (rest a).gives (Ok r)
went_on_told told t rest r (inl x) = x
went_on_told told t rest r (inr x) = absurd (same_parts (Ok r) (Err (told x.0)) x.2)

went_on_as : {A T E : Type 0} (t : Table (Result A E)) (rest : A → Table (Result T E)) (r : T) (a : A) → t.gives (Ok a)
    → (and_then t rest).gives (Ok r) → (rest a).gives (Ok r)
went_on_as t rest r a is x =
    let own = went_on t rest r x in
    subst (λ b. (rest b).gives (Ok r)) (same_parts (Ok own.0) (Ok a) (t.one (Ok own.0) (Ok a) own.1 is)) own.2

pub holds : (b : Bool) → not b ≡ false → b ≡ true
holds true e = refl
holds false e = absurd (cc (e))

-- whoever is trusted by what it signed
module _ (own other : KeysRecord) (content_type content certificate bytes : Bytes) (w : IsWritten own.sign content_type content certificate bytes) (expected : ExpectedRecord) where
  abbrev judged : JudgedRecord
  judged = judged_in (written_parts own.sign content_type content certificate bytes w)

  abbrev by_signature : Certificate → Table (Result (Unit {0}) TrustRefusal)
  by_signature holder =
      refuse (not (other.verifies holder.tbs_certificate.subject_public_key_info w.signed.algorithm (signed_bytes content_type content) w.signed.signature)) InvalidSignature (done (Ok tt))

  abbrev by_digest : Certificate → Table (Result (Unit {0}) TrustRefusal)
  by_digest holder = refuse (not (pointwise nat_eq (sha256 content) (sha256 content))) InvalidSignature (by_signature holder)

  abbrev by_serial : Certificate → Table (Result (Unit {0}) TrustRefusal)
  by_serial holder =
      refuse (not (pointwise nat_eq (integer_content holder.tbs_certificate.serial_number) (integer_content w.value.tbs_certificate.serial_number))) InvalidSignature (by_digest holder)

  verified : (holder : Certificate) → (signed_by other holder judged).gives (Ok tt)
      → other.verifies holder.tbs_certificate.subject_public_key_info w.signed.algorithm (signed_bytes content_type content) w.signed.signature ≡ true
  verified holder x =
      let issuer =
      past_refuse {T = Unit {0}} {E = TrustRefusal} (not (pointwise nat_eq (name_bytes holder.tbs_certificate.issuer) (name_bytes w.value.tbs_certificate.issuer))) InvalidSignature (by_serial holder) tt x in
      let serial =
      past_refuse {T = Unit {0}} {E = TrustRefusal} (not (pointwise nat_eq (integer_content holder.tbs_certificate.serial_number) (integer_content w.value.tbs_certificate.serial_number)))
      InvalidSignature (by_digest holder) tt issuer.1 in
      let digest = past_refuse {T = Unit {0}} {E = TrustRefusal} (not (pointwise nat_eq (sha256 content) (sha256 content))) InvalidSignature (by_signature holder) tt serial.1 in
      let verifies = other.verifies holder.tbs_certificate.subject_public_key_info w.signed.algorithm (signed_bytes content_type content) w.signed.signature in
      let signature = past_refuse {T = Unit {0}} {E = TrustRefusal} (not verifies) InvalidSignature (done (Ok tt)) tt digest.1 in
      holds verifies signature.0

  trusted_shown : (IsText : Bytes → Type 0) → ((text : Bytes) → IsText text → text ≡ signed_bytes content_type content)
      → (trusted other expected judged).gives (Ok tt) → IsTrusted own other expected certificate IsText
  trusted_shown IsText only x =
      let read =
      found {A = ReadRecord} {T = Unit {0}} {E = TrustRefusal} (IsCertificate certificate) (sole_certificate certificate) CantVerifyCertificate (trusted_by other expected judged) tt x in
      let accepts = went_on {A = Unit {0}} {T = Unit {0}} {E = TrustRefusal} (accepted other expected read.0) (λ _. signed_by other read.0.certificate judged) tt read.2 in
      record {
        read = read.0;
        accepts = record { reads = read.1; accepts = accepts.1 };
        signs = λ text is.
            subst (λ (t : Bytes). (made : Signed) × (own.sign t ≡ Some made)
            × (other.verifies read.0.certificate.tbs_certificate.subject_public_key_info made.algorithm t made.signature ≡ true))
            (sym (only text is)) (w.signed, w.signs, verified read.0.certificate accepts.2);
      }

-- how a realm comes to its secret by the client's public value, and to its reply
pub record IsReplied (keys : KeysRecord) (value : Raw) (words : Bytes) (nonce : ℤ) (own : Bytes) (agreed : AgreedRecord) : Type 0 where
  pub secret : Bytes
  pub agrees : keys.agree (WholeValue value) words ≡ Some secret
  pub same_secret : agreed.secret ≡ secret
  pub element : Raw
  pub own_value : keys.public_value words ≡ Some element
  pub own_key : AgreementPublicKey
  pub is_own_key : IsPublicKey element own_key
  pub signed : Bytes
  pub is_signed : IsWritten keys.sign dh_key_data (key_info_bytes (key_info_of own_key.subject_public_key nonce)) own signed
  pub same_reply : agreed.reply ≡ dh_reply_bytes (dh_reply_of signed)

module _ (client_keys realm_keys : KeysRecord) (certificate : Bytes) (trust : TrustRecord) (call : PkinitCallRecord) (asked : PkinitAskedRecord) (padata : Bytes)
    (is : IsPkAsReqOf client_keys certificate call.body asked.moment asked.words padata) (key : AgreementPublicKey) (is_key : IsPublicKey is.value key) (agreed : AgreedRecord) where
  abbrev pack_text : Bytes
  pack_text = pack_bytes call.body asked.moment is.second is.value

  abbrev pack : AuthPack Raw
  pack = granting.pack_of call.body asked.moment is.second is.value

  abbrev asks_for : AuthPackFieldsRecord
  asks_for = granting.asked_for call.body asked.moment is.value

  abbrev parts : SignedParts
  parts = written_parts client_keys.sign auth_data pack_text certificate is.signed is.is_signed

  -- what the realm judges of the request
  module _ (anchor : AnchorRecord) (own : Bytes) where
    abbrev judging : JudgingRecord
    judging = judging_by call anchor own

    abbrev signer : Table (Result (Unit {0}) Code)
    signer = signed_by_client realm_keys judging.expected parts

    judged_so : (of_request realm_keys judging padata).gives (Ok agreed)
        → (trusted realm_keys judging.expected (judged_in parts)).gives (Ok tt) × (agreed_on realm_keys judging asks_for).gives (Ok agreed)
    judged_so x =
        let signed : (of_signed realm_keys judging is.signed).gives (Ok agreed) =
        found_as {A = PaPkAsReq} {T = AgreedRecord} {E = Code} (IsPaPkAsReq padata) (sole_pa_pk_as_req padata) KDC_ERR_PREAUTH_FAILED
        (λ request. of_signed realm_keys judging request.signed_auth_pack.0) agreed (pk_as_req_of is.signed) (granting.written_request is.signed padata is.encoding) x in
        let content : (of_content realm_keys judging parts).gives (Ok agreed) =
        found_as {A = SignedParts} {T = AgreedRecord} {E = Code} (IsSignedContent is.signed) (one_content is.signed) KDC_ERR_PREAUTH_FAILED (of_content realm_keys judging) agreed parts
        (written_is client_keys.sign auth_data pack_text certificate is.signed is.is_signed) signed in
        let typed =
        past_refuse {T = AgreedRecord} {E = Code} (not (is_auth_data parts)) KDC_ERR_PREAUTH_FAILED
        (ask (IsAuthPack pack_text) (sole_auth_pack pack_text) (done (Err KDC_ERR_PREAUTH_FAILED)) (of_auth_pack realm_keys judging parts)) agreed content in
        let packed : (of_auth_pack realm_keys judging parts pack).gives (Ok agreed) =
        found_as {A = AuthPack Raw} {T = AgreedRecord} {E = Code} (IsAuthPack pack_text) (sole_auth_pack pack_text) KDC_ERR_PREAUTH_FAILED (of_auth_pack realm_keys judging parts) agreed pack
        (granting.written_pack call.body asked.moment is.second is.value (key_element is.value key is_key)) typed.1 in
        let asking : (and_then signer (λ _. agreed_on realm_keys judging asks_for)).gives (Ok agreed) =
        went_on_as {A = AuthPackFieldsRecord} {T = AgreedRecord} {E = Code} (auth_pack_fields call.body pack) (λ a. and_then signer (λ _. agreed_on realm_keys judging a)) agreed asks_for
        (granting.asks call.body asked.moment is.second is.value is.of_moment) packed in
        let signing = went_on {A = Unit {0}} {T = AgreedRecord} {E = Code} signer (λ _. agreed_on realm_keys judging asks_for) agreed asking in
        let by =
        went_on_told {A = Unit {0}} {T = Unit {0}} {E = TrustRefusal} {F = Code} code_of (trusted realm_keys judging.expected (judged_in parts)) (λ _. done (Ok tt)) signing.0 signing.1 in
        (by.1, signing.2)

  abbrev Replied : Bytes → Type 0
  Replied own = IsReplied realm_keys is.value (agreement_bytes call.words) call.body.nonce.0 own agreed

  -- what the realm comes to
  replied_so : (anchor : AnchorRecord) (own : Bytes) → (agreed_on realm_keys (judging_by call anchor own) asks_for).gives (Ok agreed) → Replied own
  replied_so anchor own x =
      let words = agreement_bytes call.words in
      let nonce = call.body.nonce.0 in
      let replying = pk_as_rep realm_keys own nonce call.words in
      let near =
      past_refuse {T = AgreedRecord} {E = Code} (is_far call.skew call.moment asked.moment) KRB_AP_ERR_SKEW
      (need (realm_keys.agree (WholeValue is.value) words) KDC_ERR_KEY_TOO_WEAK (λ secret. and_then replying (λ reply. done (Ok (record { secret = secret; kdf = None; reply = reply }))))) agreed x in
      let secret =
      needed {A = Bytes} {T = AgreedRecord} {E = Code} (realm_keys.agree (WholeValue is.value) words) KDC_ERR_KEY_TOO_WEAK
      (λ secret. and_then replying (λ reply. done (Ok (record { secret = secret; kdf = None; reply = reply })))) agreed near.1 in
      let reply = went_on {A = Bytes} {T = AgreedRecord} {E = Code} replying (λ reply. done (Ok (record { secret = secret.0; kdf = None; reply = reply }))) agreed secret.2 in
      let same : agreed ≡ record { secret = secret.0; kdf = None; reply = reply.0 } = same_parts (Ok agreed) (Ok (record { secret = secret.0; kdf = None; reply = reply.0 })) reply.2 in
      let element =
      needed {A = Raw} {T = Bytes} {E = Code} (realm_keys.public_value words) KRB_ERR_GENERIC
      (λ element. ask (IsPublicKey element) (sole_public_key element) (done (Err KRB_ERR_GENERIC)) (λ own_key.
      ask (IsWritten realm_keys.sign dh_key_data (key_info_bytes (key_info_of own_key.subject_public_key nonce)) own)
      (one_written realm_keys.sign dh_key_data (key_info_bytes (key_info_of own_key.subject_public_key nonce)) own) (done (Err KRB_ERR_GENERIC)) (λ signed.
      done (Ok (dh_reply_bytes (dh_reply_of signed)))))) reply.0 reply.1 in
      let own_key =
      found {A = AgreementPublicKey} {T = Bytes} {E = Code} (IsPublicKey element.0) (sole_public_key element.0) KRB_ERR_GENERIC
      (λ own_key. ask (IsWritten realm_keys.sign dh_key_data (key_info_bytes (key_info_of own_key.subject_public_key nonce)) own)
      (one_written realm_keys.sign dh_key_data (key_info_bytes (key_info_of own_key.subject_public_key nonce)) own) (done (Err KRB_ERR_GENERIC)) (λ signed.
      done (Ok (dh_reply_bytes (dh_reply_of signed))))) reply.0 element.2 in
      let info = key_info_bytes (key_info_of own_key.0.subject_public_key nonce) in
      let written =
      found {A = Bytes} {T = Bytes} {E = Code} (IsWritten realm_keys.sign dh_key_data info own) (one_written realm_keys.sign dh_key_data info own) KRB_ERR_GENERIC
      (λ signed. done (Ok (dh_reply_bytes (dh_reply_of signed)))) reply.0 own_key.2 in
      record {
        secret = secret.0;
        agrees = secret.1;
        same_secret = ap (λ (a : AgreedRecord). a.secret) same;
        element = element.0;
        own_value = element.1;
        own_key = own_key.0;
        is_own_key = own_key.1;
        signed = written.0;
        is_signed = written.1;
        same_reply = ap (λ (a : AgreedRecord). a.reply) same ∙ same_parts (Ok reply.0) (Ok (dh_reply_bytes (dh_reply_of written.0))) written.2;
      }

  -- what the client judges of the reply
  module _ (own : Bytes) (r : Replied own) where
    abbrev info_text : Bytes
    info_text = key_info_bytes (key_info_of r.own_key.subject_public_key call.body.nonce.0)

    abbrev own_parts : SignedParts
    own_parts = written_parts realm_keys.sign dh_key_data info_text own r.signed r.is_signed

    abbrev replier : Table (Result (Unit {0}) ReplyFault)
    replier = client.signed_by client_keys (expected_realm asked) own_parts

    taken_so : (client.secret_of client_keys asked agreed.reply).gives (Ok agreed.secret)
        → (trusted client_keys (expected_realm asked) (judged_in own_parts)).gives (Ok tt) × (client_keys.agree (ValueBits r.own_key.subject_public_key) asked.words ≡ Some agreed.secret)
    unfolding client.secret_of
    taken_so x =
        let agrees = client_keys.agree (ValueBits r.own_key.subject_public_key) asked.words in
        let told : (client.of_signed client_keys asked r.signed).gives (Ok agreed.secret) =
        found_as {A = PaPkAsRep} {T = Bytes} {E = ReplyFault} (client.IsPaPkAsRep agreed.reply) (client.sole_pa_pk_as_rep agreed.reply) NotTrusted (client.of_reply client_keys asked) agreed.secret
        (dh_reply_of r.signed) (taking.written_reply r.signed agreed.reply r.same_reply) x in
        let content : (client.of_content client_keys asked own_parts).gives (Ok agreed.secret) =
        found_as {A = SignedParts} {T = Bytes} {E = ReplyFault} (IsSignedContent r.signed) (one_content r.signed) NotTrusted (client.of_content client_keys asked) agreed.secret own_parts
        (written_is realm_keys.sign dh_key_data info_text own r.signed r.is_signed) told in
        let typed =
        past_refuse {T = Bytes} {E = ReplyFault} (not (client.is_dh_key_data own_parts)) NotTrusted (and_then replier (λ _. client.of_key_data client_keys asked info_text)) agreed.secret content in
        let signing = went_on {A = Unit {0}} {T = Bytes} {E = ReplyFault} replier (λ _. client.of_key_data client_keys asked info_text) agreed.secret typed.1 in
        let by =
        went_on_told {A = Unit {0}} {T = Unit {0}} {E = TrustRefusal} {F = ReplyFault} (λ refusal. NotTrusted) (trusted client_keys (expected_realm asked) (judged_in own_parts)) (λ _. done (Ok tt))
        signing.0 signing.1 in
        let info : (client.of_key_info client_keys asked (key_info_of r.own_key.subject_public_key call.body.nonce.0)).gives (Ok agreed.secret) =
        found_as {A = KdcDhKeyInfo} {T = Bytes} {E = ReplyFault} (client.IsKdcDhKeyInfo info_text) (client.sole_kdc_dh_key_info info_text) NotTrusted (client.of_key_info client_keys asked) agreed.secret
        (key_info_of r.own_key.subject_public_key call.body.nonce.0)
        (taking.written_info r.own_key.subject_public_key call.body.nonce.0 (key_bits r.element r.own_key r.is_own_key)) signing.2 in
        let same_nonce =
        past_refuse {T = Bytes} {E = ReplyFault} (not (is_number asked.nonce call.body.nonce.0)) NotTrusted (need agrees NotTrusted (λ secret. done (Ok secret))) agreed.secret info in
        let secret = needed {A = Bytes} {T = Bytes} {E = ReplyFault} agrees NotTrusted (λ secret. done (Ok secret)) agreed.secret same_nonce.1 in
        (by.1, secret.1 ∙ ap Some (sym (same_parts (Ok agreed.secret) (Ok secret.0) secret.2)))

  -- the client signs one AuthPack at a moment
  only_pack : (text : Bytes) → IsPackText call.body asked.moment is.value text → text ≡ signed_bytes auth_data pack_text
  only_pack text t =
      t.2 ∙ ap (λ second. signed_bytes auth_data (pack_bytes call.body asked.moment second is.value)) (sole_second asked.moment t.0 is.second t.1 is.of_moment)

  pub shown : (pkinit_table realm_keys trust call padata).gives (Ok agreed) → (client.secret_of client_keys asked agreed.reply).gives (Ok agreed.secret)
      → IsHonestExchange client_keys certificate trust realm_keys call asked
  unfolding pkinit_table
  shown gives takes =
      let anchor =
      needed {A = AnchorRecord} {T = AgreedRecord} {E = Code} trust.anchor KDC_ERR_PADATA_TYPE_NOSUPP
      (λ anchor. need trust.certificate KDC_ERR_PADATA_TYPE_NOSUPP (λ own. of_request realm_keys (judging_by call anchor own) padata)) agreed gives in
      let own =
      needed {A = Bytes} {T = AgreedRecord} {E = Code} trust.certificate KDC_ERR_PADATA_TYPE_NOSUPP (λ own. of_request realm_keys (judging_by call anchor.0 own) padata) agreed anchor.2 in
      let granted = judged_so anchor.0 own.0 own.2 in
      let r = replied_so anchor.0 own.0 granted.1 in
      let t = taken_so own.0 r takes in
      record {
        agreement = record {
          agreeing = record {
            client_element = is.value;
            client_value = is.is_value;
            client_key = key;
            is_client_key = is_key;
            realm_element = r.element;
            realm_value = r.own_value;
            realm_key = r.own_key;
            is_realm_key = r.is_own_key;
            secret = r.secret;
            realm_agrees = r.agrees;
            client_agrees = t.1 ∙ ap Some r.same_secret;
          };
          pkinit = record { anchor = anchor.0; has_anchor = anchor.1; own = own.0; has_own = own.1 };
          client_trusted =
              trusted_shown client_keys realm_keys auth_data pack_text certificate is.signed is.is_signed (expected_client call anchor.0)
              (IsPackText call.body asked.moment is.value) only_pack granted.0;
        };
        realm_trusted =
            trusted_shown realm_keys client_keys dh_key_data (info_text own.0 r) own.0 r.signed r.is_signed (expected_realm asked)
            (IsKeyInfoText r.own_key.subject_public_key call.body.nonce.0) (λ text same. same) t.0;
      }
