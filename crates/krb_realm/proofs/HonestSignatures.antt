-- What clients sign by their certificates is theirs: the premise holds where requests come to the realm as clients sent them.
use Rattle.std.proofs.Common.{◌≡◌, List, [], ◌∷◌, Some, refl, sym, ap, subst, ◌∙◌}
use Rattle.picky_asn1.specs.Bytes.{Bytes}
use Rattle.x509_codec.specs.Covered.{as_set}
use Rattle.krb_messages.specs.Messages.{IsAsReq, sole_as_req}
use Rattle.krb_messages.specs.Padata.{first_of, first_padata, padata_in}
use Rattle.krb_messages.specs.declared.messages.kdc_req.KdcReq.{KdcReq}
use Rattle.krb_messages.specs.declared.messages.kdc_req_body.KdcReqBody.{KdcReqBody}
use Rattle.krb_tickets.specs.MethodData.{pa_data_of}
use Rattle.krb_client.specs.AsRequest.{as_body_of_suites, as_request_of}
use Rattle.krb_client.specs.Asked.{agreement_part}
use Rattle.krb_client.specs.Messages.{as_request_bytes}
use Rattle.krb_logins.proofs.Names.{component_texts, realm_text}
use Rattle.krb_logins.proofs.WholeRequests.{as_request_written}
use Rattle.krb_authenticity.specs.Parties.{ExchangeRecord}
use Rattle.x509_certificates.specs.contracts.certificate.CertificateSpelled.TheImpl as certificate_impl
use Rattle.x509_certificates.specs.declared.certificate.Certificate.{Certificate}
use Rattle.x509_keys.specs.KeyFunctions.{KeysRecord}
use Rattle.x509_keys.specs.declared.subject_public_key_info.SubjectPublicKeyInfo.{SubjectPublicKeyInfo}
use Rattle.cms_signed_data.specs.SignedContents.{IsSignedContent}
use Rattle.cms_signed_data.specs.SignedLaws.{one_content}
use Rattle.cms_signed_data.specs.SignedParts.{SignedParts}
use Rattle.cms_signed_data.specs.WrittenLaws.{written_is, written_parts}
use Rattle.pkinit_messages.specs.declared.pa_pk_as_req.PaPkAsReq.{PaPkAsReq}
use Rattle.pkinit_validation.specs.AuthPacks.{IsPaPkAsReq, sole_pa_pk_as_req}
use Rattle.pkinit_validation.specs.Certificates.{IsCertificate}
use Rattle.pkinit_clients.specs.AuthPacks.{auth_data}
use Rattle.pkinit_clients.specs.Requests.{IsPkAsReqOf, pk_as_req_of}
use Rattle.krb_realm.specs.Signatures.{AreSignaturesMade, CertifiedRequest, IsCertifiedHonest, IsCertifiedRead, IsSignedBy, IsVerified, SignatureRecord, pack_of}
use Rattle.krb_realm.proofs.Granted.{written_request}

same_padata : (a b : Bytes) → Some a ≡ Some b → a ≡ b
same_padata a b e = cc (e)

-- the first entry is the only one
own_padata : (value : Bytes) → first_of 16 (pa_data_of 16 value ∷ []) ≡ Some value
unfolding first_of first_padata
own_padata value = refl

module _ (keys : KeysRecord) (certified : List CertifiedRequest) (exchange : ExchangeRecord) (h : IsCertifiedHonest certified exchange) where
  abbrev own : CertifiedRequest
  own = h.request

  abbrev body : KdcReqBody
  body = as_body_of_suites own.client own.suites own.service own.till own.words

  abbrev value : Bytes
  value = h.is_sent.shown.value

  abbrev is_pk : IsPkAsReqOf own.keys own.certificate body own.moment (agreement_part own.words) value
  is_pk = h.is_sent.shown.is_request

  abbrev own_parts : SignedParts
  own_parts = written_parts own.keys.sign auth_data (pack_of own h.is_sent) own.certificate is_pk.signed is_pk.is_signed

  read_own : IsAsReq exchange.request (as_request_of (pa_data_of 16 value) body)
  read_own =
      as_request_written (pa_data_of 16 value) own.client own.suites own.service own.till own.words exchange.request (realm_text own.client.realm h.named.realm)
      (component_texts own.client.components h.named.name) (component_texts own.service h.service_named)
      (h.bytes ∙ h.is_sent.encoding ∙ ap (λ padata. as_request_bytes (as_request_of padata body)) h.is_sent.shown.made)

  -- the signed content that the realm reads is what the client wrote
  same_content : (content : SignedParts) → IsCertifiedRead exchange content → content ≡ own_parts
  same_content content r =
      let same = sole_as_req exchange.request r.asked (as_request_of (pa_data_of 16 value) body) r.read read_own in
      let padata = same_padata r.padata value (sym r.first ∙ ap (λ (q : KdcReq). first_of 16 (padata_in q)) same ∙ own_padata value) in
      let request = sole_pa_pk_as_req value r.request (pk_as_req_of is_pk.signed) (subst (λ b. IsPaPkAsReq b r.request) padata r.is_request) (written_request is_pk.signed value is_pk.encoding) in
      one_content is_pk.signed content own_parts (subst (λ (q : PaPkAsReq). IsSignedContent q.signed_auth_pack.0 content) request r.signed)
      (written_is own.keys.sign auth_data (pack_of own h.is_sent) own.certificate is_pk.signed is_pk.is_signed)

  signed_own : (signature : SignatureRecord) → IsVerified keys exchange signature → IsSignedBy own signature
  signed_own signature v =
      let same = same_content v.content v.is_read in
      let read = subst (λ b. IsCertificate b v.certificate) (ap (λ (p : SignedParts). p.certificate) same) v.is_certificate in
      let certificate : v.certificate.certificate ≡ is_pk.is_signed.value =
      (certificate_impl.ghosts.laws.one v.certificate.certificate is_pk.is_signed.value own.certificate read.count is_pk.is_signed.count read.spelled is_pk.is_signed.certificate_spelled).0 in
      record {
        sent = h.is_sent;
        key = ap (λ (c : Certificate). c.tbs_certificate.subject_public_key_info) (sym certificate) ∙ sym (ap (λ (s : SignatureRecord). s.key) v.is);
        covered = ap (λ (s : SignatureRecord). s.covered) v.is ∙ ap (λ (p : SignedParts). as_set p.signed_attributes) same;
      }

pub signatures_made : (keys : KeysRecord) (holders : List SubjectPublicKeyInfo) (certified : List CertifiedRequest) (exchange : ExchangeRecord) → IsCertifiedHonest certified exchange
    → AreSignaturesMade keys holders certified exchange
signatures_made keys holders certified exchange h signature v kept = (h.request, h.among, signed_own keys certified exchange h signature v)
