-- A client signed what the realm accepted by certificate.
use Rattle.std.proofs.Common.{◌≡◌, ℕ, true, List, ◌∷◌, Some, Result, Ok, Err, drop, refl, sym, ap, ◌∙◌}
use Rattle.std.specs.Prelude.{not}
use Rattle.std.specs.Bool.{nat_eq}
use Rattle.std.specs.Cmp.Lexicographic.{pointwise}
use Rattle.sha2.specs.Sha256.{sha256}
use Rattle.asn1_der.specs.Length.{element}
use Rattle.asn1_der.specs.Tree.{der}
use Rattle.asn1_der.proofs.Spelling.{IsInjective}
use Rattle.asn1_der.proofs.Tagged.{tagged-injective}
use Rattle.picky_asn1.specs.Bytes.{Bytes}
use Rattle.picky_asn1.specs.Integer.{integer_content}
use Rattle.picky_asn1_der.specs.Raw.{Raw}
use Rattle.decision_tables.specs.Tables.{Table, and_then, ask, done, need, refuse}
use Rattle.krb_messages.specs.Messages.{IsAsReq}
use Rattle.krb_messages.specs.Padata.{first_of, padata_in}
use Rattle.krb_messages.specs.declared.messages.kdc_req.KdcReq.{KdcReq}
use Rattle.krb_kdc_exchanges.specs.PkinitCalls.{AgreedRecord, PkinitCallRecord}
use Rattle.krb_logins.proofs.Names.{equal_realms}
use Rattle.krb_authenticity.specs.Among.{IsAmong}
use Rattle.krb_authenticity.specs.Parties.{ExchangeRecord}
use Rattle.x509_codec.specs.Covered.{as_set}
use Rattle.x509_keys.specs.KeyFunctions.{KeysRecord}
use Rattle.x509_keys.specs.declared.subject_public_key_info.SubjectPublicKeyInfo.{SubjectPublicKeyInfo}
use Rattle.cms_signed_data.specs.Parts.{parts_held}
use Rattle.cms_signed_data.specs.SignedContents.{IsSignedContent}
use Rattle.cms_signed_data.specs.SignedLaws.{attributes_der, one_content}
use Rattle.cms_signed_data.specs.SignedParts.{SignedParts, attributes_tree, content_of, digest_of}
use Rattle.cms_signed_data.specs.Written.{attributes_of, signed_bytes}
use Rattle.cms_signed_data.specs.contracts.signed_attributes.SignedAttributesTagged.TheImpl as attributes_impl
use Rattle.cms_signed_data.specs.declared.signed_attributes.SignedAttributes.{SignedAttributes}
use Rattle.cms_signed_data.proofs.WholeLemmas.{attributes_whole}
use Rattle.pkinit_messages.specs.declared.auth_pack.AuthPack.{AuthPack}
use Rattle.pkinit_messages.specs.declared.pa_pk_as_req.PaPkAsReq.{PaPkAsReq}
use Rattle.pkinit_validation.specs.Accepted.{accepted}
use Rattle.pkinit_validation.specs.Anchors.{AnchorRecord}
use Rattle.pkinit_validation.specs.AuthPackFields.{AuthPackFieldsRecord}
use Rattle.pkinit_validation.specs.AuthPacks.{IsAuthPack, IsPaPkAsReq, sole_auth_pack, sole_pa_pk_as_req}
use Rattle.pkinit_validation.specs.Certificates.{IsCertificate, ReadRecord, name_bytes, sole_certificate}
use Rattle.pkinit_validation.specs.Judging.{JudgingRecord, judging_by}
use Rattle.pkinit_validation.specs.PkinitTable.{agreed_on, auth_pack_fields, is_auth_data, of_auth_pack, of_content, of_request, of_signed, pkinit_table, signed_by_client}
use Rattle.pkinit_validation.specs.Refusals.{code_of}
use Rattle.pkinit_validation.specs.SignedContents.{judged_in}
use Rattle.pkinit_validation.specs.Signers.{signed_by}
use Rattle.pkinit_validation.specs.Trust.{TrustRecord}
use Rattle.pkinit_validation.specs.Trusted.{trusted, trusted_by}
use Rattle.pkinit_validation.specs.declared.refusal.TrustRefusal.{TrustRefusal}
use Rattle.pkinit_validation.specs.declared.refusal.TrustRefusal.TheVariants.{CantVerifyCertificate, InvalidSignature}
use Rattle.pkinit_clients.specs.AuthPacks.{auth_data}
use Rattle.krb_realm.specs.Signatures.{AreSignaturesMade, CertifiedRequest, IsAskedByCertificate, IsByCertificate, IsCertifiedRead, IsSignedBy, SignatureRecord, key_of, pack_of, signature_in}
use Rattle.krb_realm.proofs.Shown.{found, holds, needed, past_refuse, went_on, went_on_told}

-- ---- one digest for what one signature covers

attributes-injective : IsInjective attributes_tree
attributes-injective = tagged-injective 160 attributes_impl.ghosts.row_tree attributes_impl.ghosts.row_laws attributes_impl.ghosts.row_of attributes_impl.ghosts.one_row

-- the tag of a SET OF hides nothing
as_set_whole : (a b : SignedAttributes) → as_set (der (attributes_tree a)) ≡ as_set (der (attributes_tree b)) → der (attributes_tree a) ≡ der (attributes_tree b)
unfolding element
as_set_whole a b e = ap (λ (octets : List ℕ). 160 ∷ drop 1 octets) e

same_digest : (bytes : Bytes) (content : SignedParts) → IsSignedContent bytes content → (pack : Bytes) → as_set content.signed_attributes ≡ signed_bytes auth_data pack
    → digest_of content.info ≡ sha256 pack
same_digest bytes content is pack e =
    let own : SignedAttributes = content.info.content.0.signer_infos.0.signed_attributes in
    let theirs : SignedAttributes = attributes_of auth_data pack in
    let held = (parts_held content.info bytes is.form.0.0 is.form.0.1).attributes_at in
    let covered : as_set (der (attributes_tree own)) ≡ as_set (der (attributes_tree theirs)) = ap as_set (sym (attributes_der bytes content is)) ∙ e in
    let same = attributes-injective own theirs held.is.0.0 (attributes_whole auth_data pack refl) (as_set_whole own theirs covered) in
    ap (λ (a : SignedAttributes). a.message_digest.values.0) same

-- ---- what the table passed

-- the realm read signed content, accepted its certificate, and verified its signature
record IsPassed (keys : KeysRecord) (judging : JudgingRecord) (padata : Bytes) : Type 0 where
  request : PaPkAsReq
  is_request : IsPaPkAsReq padata request
  content : SignedParts
  signed : IsSignedContent request.signed_auth_pack.0 content
  certificate : ReadRecord
  is_certificate : IsCertificate content.certificate certificate
  accepts : (accepted keys judging.expected certificate).gives (Ok tt)
  digest : sha256 (content_of content.info) ≡ digest_of content.info
  verifies : keys.verifies (key_of certificate) (judged_in content).algorithm (judged_in content).covered (judged_in content).signature ≡ true

-- the rows of a signature, from the last one on
module _ (keys : KeysRecord) (content : SignedParts) (read : ReadRecord) where
  abbrev by_signature : Table (Result (Unit {0}) TrustRefusal)
  by_signature =
      refuse (not (keys.verifies (key_of read) (judged_in content).algorithm (judged_in content).covered (judged_in content).signature)) InvalidSignature (done (Ok tt))

  abbrev by_digest : Table (Result (Unit {0}) TrustRefusal)
  by_digest = refuse (not (pointwise nat_eq (sha256 (judged_in content).content) (judged_in content).digest)) InvalidSignature by_signature

  abbrev by_serial : Table (Result (Unit {0}) TrustRefusal)
  by_serial =
      refuse (not (pointwise nat_eq (integer_content read.certificate.tbs_certificate.serial_number) (integer_content (judged_in content).serial))) InvalidSignature by_digest

  signed_so : (signed_by keys read.certificate (judged_in content)).gives (Ok tt)
      → (sha256 (content_of content.info) ≡ digest_of content.info)
      × (keys.verifies (key_of read) (judged_in content).algorithm (judged_in content).covered (judged_in content).signature ≡ true)
  signed_so x =
      let issuer = past_refuse {T = Unit {0}} {E = TrustRefusal}
      (not (pointwise nat_eq (name_bytes read.certificate.tbs_certificate.issuer) (name_bytes (judged_in content).issuer))) InvalidSignature by_serial tt x in
      let serial = past_refuse {T = Unit {0}} {E = TrustRefusal}
      (not (pointwise nat_eq (integer_content read.certificate.tbs_certificate.serial_number) (integer_content (judged_in content).serial))) InvalidSignature by_digest tt issuer.1 in
      let digest = past_refuse {T = Unit {0}} {E = TrustRefusal} (not (pointwise nat_eq (sha256 (judged_in content).content) (judged_in content).digest)) InvalidSignature by_signature tt serial.1 in
      let signature = past_refuse {T = Unit {0}} {E = TrustRefusal}
      (not (keys.verifies (key_of read) (judged_in content).algorithm (judged_in content).covered (judged_in content).signature)) InvalidSignature (done (Ok tt)) tt digest.1 in (
        equal_realms (sha256 (judged_in content).content) (judged_in content).digest (holds (pointwise nat_eq (sha256 (judged_in content).content) (judged_in content).digest) digest.0),
        holds (keys.verifies (key_of read) (judged_in content).algorithm (judged_in content).covered (judged_in content).signature) signature.0,
      )

module _ (keys : KeysRecord) (judging : JudgingRecord) (padata : Bytes) (agreed : AgreedRecord) where
  abbrev by_content : PaPkAsReq → Table (Result AgreedRecord ℕ)
  by_content request = of_signed keys judging request.signed_auth_pack.0

  abbrev by_fields : SignedParts → AuthPackFieldsRecord → Table (Result AgreedRecord ℕ)
  by_fields content fields = and_then (signed_by_client keys judging.expected content) (λ _. agreed_on keys judging fields)

  abbrev by_pack : SignedParts → Table (Result AgreedRecord ℕ)
  by_pack content = ask (IsAuthPack (content_of content.info)) (sole_auth_pack (content_of content.info)) (done (Err 24)) (of_auth_pack keys judging content)

  abbrev by_certificate : SignedParts → ReadRecord → Table (Result (Unit {0}) TrustRefusal)
  by_certificate content read = signed_by keys read.certificate (judged_in content)

  passed : (of_request keys judging padata).gives (Ok agreed) → IsPassed keys judging padata
  passed x =
      let a = found {A = PaPkAsReq} {T = AgreedRecord} {E = ℕ} (IsPaPkAsReq padata) (sole_pa_pk_as_req padata) 24 by_content agreed x in
      let b = found {A = SignedParts} {T = AgreedRecord} {E = ℕ} (IsSignedContent a.0.signed_auth_pack.0) (one_content a.0.signed_auth_pack.0) 24 (of_content keys judging) agreed a.2 in
      let content : SignedParts = b.0 in
      let c = past_refuse {T = AgreedRecord} {E = ℕ} (not (is_auth_data content)) 24 (by_pack content) agreed b.2 in
      let d = found {A = AuthPack Raw} {T = AgreedRecord} {E = ℕ} (IsAuthPack (content_of content.info)) (sole_auth_pack (content_of content.info)) 24 (of_auth_pack keys judging content) agreed c.1 in
      let e = went_on {A = AuthPackFieldsRecord} {T = AgreedRecord} {E = ℕ} (auth_pack_fields judging.body d.0) (by_fields content) agreed d.2 in
      let f = went_on {A = Unit {0}} {T = AgreedRecord} {E = ℕ} (signed_by_client keys judging.expected content) (λ _. agreed_on keys judging e.0) agreed e.2 in
      let g = went_on_told {A = Unit {0}} {T = Unit {0}} {E = TrustRefusal} {F = ℕ} code_of (trusted keys judging.expected (judged_in content)) (λ _. done (Ok tt)) f.0 f.1 in
      let h = found {A = ReadRecord} {T = Unit {0}} {E = TrustRefusal} (IsCertificate content.certificate) (sole_certificate content.certificate) CantVerifyCertificate
      (trusted_by keys judging.expected (judged_in content)) g.0 g.1 in
      let i = went_on {A = Unit {0}} {T = Unit {0}} {E = TrustRefusal} (accepted keys judging.expected h.0) (λ _. by_certificate content h.0) g.0 h.2 in
      let so = signed_so keys content h.0 i.2 in
      record {
        request = a.0;
        is_request = a.1;
        content = content;
        signed = b.1;
        certificate = h.0;
        is_certificate = h.1;
        accepts = i.1;
        digest = so.0;
        verifies = so.1;
      }

-- ---- who signed it

module _ (keys : KeysRecord) (holders : List SubjectPublicKeyInfo) (certified : List CertifiedRequest) (exchange : ExchangeRecord) (made : AreSignaturesMade keys holders certified exchange)
    (judging : JudgingRecord) (asked : KdcReq) (read : IsAsReq exchange.request asked) (padata : Bytes) (first : first_of 16 (padata_in asked) ≡ Some padata) where
  is_read : (x : IsPassed keys judging padata) → IsCertifiedRead exchange x.content
  is_read x = record { asked = asked; read = read; padata = padata; first = first; request = x.request; is_request = x.is_request; signed = x.signed }

  asked_by : (x : IsPassed keys judging padata) → IsAmong (key_of x.certificate) holders → IsAskedByCertificate certified x.content
  asked_by x kept =
      let signature : SignatureRecord = signature_in (key_of x.certificate) x.content in
      let by = made signature (record { content = x.content; is_read = is_read x; certificate = x.certificate; is_certificate = x.is_certificate; verifies = x.verifies; is = refl }) kept in
      let own : IsSignedBy by.0 signature = by.2 in
      record {
        request = by.0;
        among = by.1;
        sent = own.sent;
        same_digest = x.digest ∙ same_digest x.request.signed_auth_pack.0 x.content x.signed (pack_of by.0 own.sent) own.covered;
      }

  pub certified_by : (agreed : AgreedRecord) → (of_request keys judging padata).gives (Ok agreed) → IsByCertificate keys judging.expected holders certified exchange
  certified_by agreed given =
      let x = passed keys judging padata agreed given in
      record { content = x.content; is_read = is_read x; certificate = x.certificate; is_certificate = x.is_certificate; accepts = x.accepts; asked = asked_by x }

-- by the whole table: the realm has an anchor and a certificate
pub client_certified : (keys : KeysRecord) (trust : TrustRecord) (holders : List SubjectPublicKeyInfo) (certified : List CertifiedRequest) (exchange : ExchangeRecord) (asked : KdcReq)
    → IsAsReq exchange.request asked → (padata : Bytes) → first_of 16 (padata_in asked) ≡ Some padata → AreSignaturesMade keys holders certified exchange
    → (call : PkinitCallRecord) (agreed : AgreedRecord) → (pkinit_table keys trust call padata).gives (Ok agreed)
    → (anchor : AnchorRecord) × (trust.anchor ≡ Some anchor) × (certificate : Bytes) × IsByCertificate keys (judging_by call anchor certificate).expected holders certified exchange
unfolding pkinit_table
client_certified keys trust holders certified exchange asked read padata first made call agreed x =
    let a = needed {A = AnchorRecord} {T = AgreedRecord} {E = ℕ} trust.anchor 16 (λ anchor. need trust.certificate 16 (λ certificate. of_request keys (judging_by call anchor certificate) padata)) agreed x in
    let b = needed {A = Bytes} {T = AgreedRecord} {E = ℕ} trust.certificate 16 (λ certificate. of_request keys (judging_by call a.0 certificate) padata) agreed a.2 in
    (a.0, a.1, b.0, certified_by keys holders certified exchange made (judging_by call a.0 b.0) asked read padata first agreed b.2)
