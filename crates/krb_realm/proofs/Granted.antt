-- An honest realm grants what an honest client asks for by certificate.
use Rattle.std.proofs.Common.{◌≡◌, ℕ, ◌+◌, ◌*◌, ◌/◌, ◌%◌, ◌<◌, Bool, true, false, Option, None, Some, Result, Ok, inl, inr, refl, sym, ap, ◌∙◌, subst, arith}
use Rattle.std.specs.Prelude.{ℤ, pos, not, if◌then◌else◌}
use Rattle.std.proofs.lemmas.Bool.{lt-ltb}
use Rattle.sha1.specs.Sha1.{sha1}
use Rattle.asn1_leaves.specs.ObjectIdentifier.{oid_content, subidentifier}
use Rattle.asn1_leaves.specs.declared.date.GeneralizedTime.{GeneralizedTime}
use Rattle.asn1_der.specs.Tree.{IsWhole}
use Rattle.asn1_der.proofs.Spelling.{whole-wrapped}
use Rattle.picky_asn1_der.specs.Raw.{Raw, raw_tree}
use Rattle.picky_asn1.specs.BitString.{Bits}
use Rattle.picky_asn1.specs.Bytes.{Bytes}
use Rattle.krb_time.specs.SecondOf.{IsSecondOf}
use Rattle.krb_time.specs.Skew.{is_far}
use Rattle.krb_time.specs.Times.{moment_at}
use Rattle.krb_time.specs.Units.{Micros, Seconds}
use Rattle.krb_constants.specs.declared.error_codes.TheConstants.{KDC_ERR_KEY_TOO_WEAK}
use Rattle.krb_messages.specs.RandomBytes.{Random}
use Rattle.krb_messages.specs.Refusals.{Code}
use Rattle.krb_constants.specs.declared.error_codes.TheConstants.{KDC_ERR_PADATA_TYPE_NOSUPP, KDC_ERR_PREAUTH_FAILED, KRB_AP_ERR_SKEW, KRB_ERR_GENERIC}
use Rattle.krb_messages.specs.declared.messages.kdc_req_body.KdcReqBody.{KdcReqBody}
use Rattle.krb_kdc_exchanges.specs.PkinitCalls.{AgreedRecord, PkinitCallRecord}
use Rattle.krb_messages.specs.Bodies.{body_bytes}
use Rattle.x509_keys.specs.KeyFunctions.{KeysRecord}
use Rattle.x509_keys.specs.KeyFunctions.TheirValue.{WholeValue}
use Rattle.x509_keys.specs.declared.functions.Signed.{Signed}
use Rattle.cms_signed_data.specs.SignedParts.{SignedParts}
use Rattle.cms_signed_data.specs.Written.{IsWritten, signed_bytes}
use Rattle.cms_signed_data.specs.WrittenLaws.{written_is, written_parts}
use Rattle.pkinit_messages.specs.declared.auth_pack.AuthPack.{AuthPack}
use Rattle.pkinit_validation.specs.Anchors.{AnchorRecord}
use Rattle.pkinit_validation.specs.Certificates.{IsCertificate, ReadRecord}
use Rattle.pkinit_validation.specs.AgreementBytes.{agreement_bytes}
use Rattle.pkinit_validation.specs.PublicKeys.{IsPublicKey}
use Rattle.pkinit_validation.specs.Replies.{dh_key_data, dh_reply_bytes, dh_reply_of, key_info_bytes, key_info_of, pk_as_rep}
use Rattle.pkinit_validation.specs.declared.public_key.AgreementPublicKey.{AgreementPublicKey}
use Rattle.pkinit_validation.specs.AuthPackFields.{AuthPackFieldsRecord}
use Rattle.pkinit_validation.specs.AuthPacks as realm
use Rattle.pkinit_validation.specs.Judging.{JudgingRecord, judging_by}
use Rattle.pkinit_validation.specs.PkinitTable.{agreed_on, auth_pack_fields, is_auth_data, of_auth_pack, of_content, pkinit_table}
use Rattle.pkinit_validation.specs.Trust.{TrustRecord}
use Rattle.pkinit_clients.specs.AuthPacks as client
use Rattle.pkinit_clients.specs.Requests.{IsNoPkAsReq, IsPkAsReqOf, pack_bytes, pk_as_req_bytes, pk_as_req_of}
use Rattle.krb_realm.specs.Agreements.{AreAgreeing, IsGrantedAgreement, IsKeyInfoText, IsPackText, Signs}
use Rattle.krb_realm.specs.Honest.{IsHonestRequest, IsPkinitRealm}
use Rattle.krb_realm.proofs.Rows.{by_need, by_refuse, same_octets}
use Rattle.krb_realm.proofs.Trusting.{is_trusted}
use Rattle.krb_realm.proofs.Wholeness.{key_element}
use Rattle.krb_realm.proofs.Writable.{some_written}

-- the request is read back
pub written_request : (signed bytes : Bytes) → bytes ≡ pk_as_req_bytes (pk_as_req_of signed) → realm.IsPaPkAsReq bytes (pk_as_req_of signed)
unfolding realm.IsPaPkAsReq pk_as_req_bytes
written_request signed bytes e = ((tt, tt), e)

-- the AuthPack at a moment
abbrev pub pack_of : KdcReqBody → Micros → GeneralizedTime → Raw → AuthPack Raw
pack_of body moment second value = client.auth_pack_of (client.authenticator_of body second (moment % 1000000)) value

-- is read back
pub written_pack : (body : KdcReqBody) (moment : Micros) (second : GeneralizedTime) (value : Raw) → IsWhole (raw_tree value)
    → realm.IsAuthPack (pack_bytes body moment second value) (pack_of body moment second value)
unfolding realm.IsAuthPack client.auth_pack_bytes
written_pack body moment second value whole =
    (((((tt, tt), ((tt, tt), ((tt, tt), ((tt, tt), tt)))), tt), (whole-wrapped 161 (raw_tree value) whole, tt)), refl)

-- its eContentType is id-pkinit-authData
written_type : (sign : Bytes → Option Signed) (content certificate signed : Bytes) (w : IsWritten sign client.auth_data content certificate signed)
    → is_auth_data (written_parts sign client.auth_data content certificate signed w) ≡ true
unfolding oid_content subidentifier
written_type sign content certificate signed w = refl

-- a moment is distinguished by its second and its microseconds
told : (moment second micros : ℕ) → second * 1000000 + micros ≡ moment → micros < 1000000 → moment_at second (pos micros) ≡ Some moment
told moment second micros e below =
    subst (λ (b : Bool). (if b then Some (second * 1000000 + micros) else None) ≡ Some moment) (sym (lt-ltb micros 1000000 below)) (ap Some e)

moment_told : (moment : Micros) (second : Seconds) → second ≡ moment / 1000000 → moment_at second (pos (moment % 1000000)) ≡ Some moment
moment_told moment second e = told moment second (moment % 1000000) (omega (arith, e)) (omega arith)

written_time : (body : KdcReqBody) (moment : Micros) (second : GeneralizedTime) (value : Raw) → IsSecondOf moment second
    → realm.time_in (pack_of body moment second value) ≡ Some moment
unfolding realm.time_in
written_time body moment second value e = moment_told moment _ e

written_digest : (body : KdcReqBody) (moment : Micros) (second : GeneralizedTime) (value : Raw) → realm.covers body (pack_of body moment second value) ≡ true
written_digest body moment second value = same_octets (sha1 (body_bytes body))

-- what the client asks for
abbrev pub asked_for : KdcReqBody → Micros → Raw → AuthPackFieldsRecord
asked_for body moment value = record { value = value; time = moment; nonce = body.nonce.0 }

pub asks : (body : KdcReqBody) (moment : Micros) (second : GeneralizedTime) (value : Raw) → IsSecondOf moment second
    → (auth_pack_fields body (pack_of body moment second value)).gives (Ok (asked_for body moment value))
asks body moment second value e =
    by_need {A = Micros} {T = AuthPackFieldsRecord} {E = Code} (realm.time_in (pack_of body moment second value)) KDC_ERR_PREAUTH_FAILED _ moment (Ok (asked_for body moment value))
    (written_time body moment second value e)
    (by_refuse {T = AuthPackFieldsRecord} {E = Code} (not (realm.covers body (pack_of body moment second value))) KDC_ERR_PREAUTH_FAILED _ (Ok (asked_for body moment value))
    (ap not (written_digest body moment second value)) refl)

-- the realm signs something over its KDCDHKeyInfo
written_over : (own other : KeysRecord) (certificate : Bytes) (read : ReadRecord) (value : Bits) (nonce : ℤ) → IsCertificate certificate read
    → Signs own other read.certificate (IsKeyInfoText value nonce) → (bytes : Bytes) × IsWritten own.sign dh_key_data (key_info_bytes (key_info_of value nonce)) certificate bytes
written_over own other certificate read value nonce reads signs =
    let text = signed_bytes dh_key_data (key_info_bytes (key_info_of value nonce)) in
    let made = signs text refl in
    some_written own.sign dh_key_data (key_info_bytes (key_info_of value nonce)) certificate read.certificate reads.count made.0 refl reads.spelled made.1 (own.encodes text made.0 made.1)

-- the realm has a reply
replies : (keys : KeysRecord) (own : Bytes) (nonce : ℤ) (words : Random) (element : Raw) (key : AgreementPublicKey) (signed : Bytes)
    → keys.public_value (agreement_bytes words) ≡ Some element → IsPublicKey element key
    → IsWritten keys.sign dh_key_data (key_info_bytes (key_info_of key.subject_public_key nonce)) own signed
    → (pk_as_rep keys own nonce words).gives (Ok (dh_reply_bytes (dh_reply_of signed)))
replies keys own nonce words element key signed value is written =
    by_need {A = Raw} {T = Bytes} {E = Code} (keys.public_value (agreement_bytes words)) KRB_ERR_GENERIC _ element (Ok (dh_reply_bytes (dh_reply_of signed))) value
    (inl (key, is, inl (signed, written, refl)))

-- both agree on the secret
agrees : (keys : KeysRecord) (judging : JudgingRecord) (asked : AuthPackFieldsRecord) (secret reply : Bytes)
    → is_far judging.skew judging.expected.moment asked.time ≡ false → keys.agree (WholeValue asked.value) (agreement_bytes judging.words) ≡ Some secret
    → (pk_as_rep keys judging.certificate asked.nonce judging.words).gives (Ok reply)
    → (agreed_on keys judging asked).gives (Ok (record { secret = secret; kdf = None; reply = reply }))
agrees keys judging asked secret reply near agreed replied =
    by_refuse {T = AgreedRecord} {E = Code} (is_far judging.skew judging.expected.moment asked.time) KRB_AP_ERR_SKEW _ (Ok (record { secret = secret; kdf = None; reply = reply })) near
    (by_need {A = Bytes} {T = AgreedRecord} {E = Code} (keys.agree (WholeValue asked.value) (agreement_bytes judging.words)) KDC_ERR_KEY_TOO_WEAK _ secret
    (Ok (record { secret = secret; kdf = None; reply = reply })) agreed (inl (reply, replied, refl)))

module _ (client_keys realm_keys : KeysRecord) (certificate : Bytes) (client_moment : Micros) (client_words : Bytes) (trust : TrustRecord) (call : PkinitCallRecord)
    (honest : IsHonestRequest client_keys realm_keys certificate client_moment client_words trust call) where
  abbrev agreeing : AreAgreeing client_keys realm_keys client_words (agreement_bytes call.words)
  agreeing = honest.agreement.agreeing

  abbrev pkinit : IsPkinitRealm trust
  pkinit = honest.agreement.pkinit

  abbrev judging : JudgingRecord
  judging = judging_by call pkinit.anchor pkinit.own

  -- what the realm signs, with the nonce of the body
  reply_signed : (signed : Bytes) × IsWritten realm_keys.sign dh_key_data (key_info_bytes (key_info_of agreeing.realm_key.subject_public_key call.body.nonce.0)) pkinit.own signed
  reply_signed =
      written_over realm_keys client_keys pkinit.own honest.read agreeing.realm_key.subject_public_key call.body.nonce.0 honest.reads honest.signs

  abbrev agreed : AgreedRecord
  agreed = record { secret = agreeing.secret; kdf = None; reply = dh_reply_bytes (dh_reply_of reply_signed.0) }

  -- the client signs the AuthPack with its public value
  pack_text : (second : GeneralizedTime) (value : Raw) → IsSecondOf client_moment second → client_keys.public_value client_words ≡ Some value
      → IsPackText call.body client_moment agreeing.client_element (signed_bytes client.auth_data (pack_bytes call.body client_moment second value))
  pack_text second value of_moment is =
      let some : Some value ≡ Some agreeing.client_element = sym is ∙ agreeing.client_value in
      let same : value ≡ agreeing.client_element = cc (some) in
      (second, of_moment, ap (λ (v : Raw). signed_bytes client.auth_data (pack_bytes call.body client_moment second v)) same)

  -- a client has a request
  pub asked : IsNoPkAsReq client_keys certificate call.body client_moment client_words → ⊥
  asked (inl none) = let never : None ≡ Some agreeing.client_element = sym none ∙ agreeing.client_value in absurd (cc (never))
  asked (inr (inl unsigned)) =
      let made = honest.agreement.client_trusted.signs (signed_bytes client.auth_data (pack_bytes call.body client_moment unsigned.second unsigned.value)) (pack_text unsigned.second unsigned.value unsigned.of_moment unsigned.is_value) in
      let never : None ≡ Some made.0 = sym unsigned.unsigned ∙ made.1 in
      absurd (cc (never))
  asked (inr (inr none)) = none honest.agreement.client_trusted.read.certificate honest.agreement.client_trusted.accepts.reads.count honest.agreement.client_trusted.accepts.reads.spelled

  module _ (bytes : Bytes) (is : IsPkAsReqOf client_keys certificate call.body client_moment client_words bytes) where
    abbrev parts : SignedParts
    parts = written_parts client_keys.sign client.auth_data (pack_bytes call.body client_moment is.second is.value) certificate is.signed is.is_signed

    same_value : is.value ≡ agreeing.client_element
    same_value = let some : Some is.value ≡ Some agreeing.client_element = sym is.is_value ∙ agreeing.client_value in cc (some)

    value_whole : IsWhole (raw_tree is.value)
    value_whole = subst (λ (r : Raw). IsWhole (raw_tree r)) (sym same_value) (key_element agreeing.client_element agreeing.client_key agreeing.is_client_key)

    value_agrees : realm_keys.agree (WholeValue is.value) (agreement_bytes call.words) ≡ Some agreeing.secret
    value_agrees = subst (λ (r : Raw). realm_keys.agree (WholeValue r) (agreement_bytes call.words) ≡ Some agreeing.secret) (sym same_value) agreeing.realm_agrees

    given_by_pack : (of_auth_pack realm_keys judging parts (pack_of call.body client_moment is.second is.value)).gives (Ok agreed)
    given_by_pack =
        inl (
          asked_for call.body client_moment is.value,
          asks call.body client_moment is.second is.value is.of_moment,
          inl (
            tt,
            inl (
              tt,
              is_trusted client_keys realm_keys client.auth_data (pack_bytes call.body client_moment is.second is.value) certificate is.signed is.is_signed judging.expected
                  (IsPackText call.body client_moment agreeing.client_element) honest.agreement.client_trusted (pack_text is.second is.value is.of_moment is.is_value),
              refl,
            ),
            agrees realm_keys judging (asked_for call.body client_moment is.value) agreeing.secret (dh_reply_bytes (dh_reply_of reply_signed.0)) honest.near value_agrees
                (replies realm_keys pkinit.own call.body.nonce.0 call.words agreeing.realm_element agreeing.realm_key reply_signed.0 agreeing.realm_value agreeing.is_realm_key reply_signed.1),
          ),
        )

    given_by_content : (of_content realm_keys judging parts).gives (Ok agreed)
    given_by_content =
        by_refuse {T = AgreedRecord} {E = Code} (not (is_auth_data parts)) KDC_ERR_PREAUTH_FAILED _ (Ok agreed)
        (ap not (written_type client_keys.sign (pack_bytes call.body client_moment is.second is.value) certificate is.signed is.is_signed))
        (inl (pack_of call.body client_moment is.second is.value, written_pack call.body client_moment is.second is.value value_whole, given_by_pack))

    given : (pkinit_table realm_keys trust call bytes).gives (Ok agreed)
    unfolding pkinit_table
    given =
        by_need {A = AnchorRecord} {T = AgreedRecord} {E = Code} trust.anchor KDC_ERR_PADATA_TYPE_NOSUPP _ pkinit.anchor (Ok agreed) pkinit.has_anchor
        (by_need {A = Bytes} {T = AgreedRecord} {E = Code} trust.certificate KDC_ERR_PADATA_TYPE_NOSUPP _ pkinit.own (Ok agreed) pkinit.has_own
        (inl (
          pk_as_req_of is.signed,
          written_request is.signed bytes is.encoding,
          inl (parts, written_is client_keys.sign client.auth_data (pack_bytes call.body client_moment is.second is.value) certificate is.signed is.is_signed, given_by_content),
        )))

    -- there is a grant
    pub grant : (agreed : AgreedRecord) × (pkinit_table realm_keys trust call bytes).gives (Ok agreed)
    grant = (agreed, given)

    -- the realm grants it
    pub granted : (result : Result AgreedRecord Code) → (pkinit_table realm_keys trust call bytes).gives result
        → IsGrantedAgreement realm_keys pkinit.own agreeing.realm_key.subject_public_key call.body.nonce.0 agreeing.secret result
    granted result gives = record {
      agreed = agreed;
      is_agreed = (pkinit_table realm_keys trust call bytes).one result (Ok agreed) gives given;
      same_secret = refl;
      no_kdf = refl;
      is_reply = record { signed = reply_signed.0; is_signed = reply_signed.1; encoding = refl };
    }
