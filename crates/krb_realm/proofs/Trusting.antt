-- What an honest party writes is trusted.
use Rattle.std.proofs.Common.{◌≡◌, ℕ, true, List, Some, Ok, inl, refl, sym, ap, ◌∙◌, subst}
use Rattle.std.specs.Prelude.{not}
use Rattle.std.specs.Bool.{nat_eq}
use Rattle.std.specs.Cmp.Lexicographic.{pointwise}
use Rattle.sha2.specs.Sha256.{sha256}
use Rattle.picky_asn1.specs.Integer.{integer_content}
use Rattle.decision_tables.specs.Tables.{done}
use Rattle.x509_certificates.specs.contracts.certificate.CertificateSpelled.TheImpl as certificate_impl
use Rattle.x509_certificates.specs.declared.certificate.Certificate.{Certificate}
use Rattle.x509_keys.specs.KeyFunctions.{KeysRecord}
use Rattle.x509_keys.specs.declared.functions.Signed.{Signed}
use Rattle.cms_signed_data.specs.Written.{IsWritten, signed_bytes}
use Rattle.cms_signed_data.specs.WrittenLaws.{written_parts}
use Rattle.pkinit_validation.specs.Certificates.{IsCertificate, ReadRecord, name_bytes}
use Rattle.pkinit_validation.specs.Expected.{ExpectedRecord}
use Rattle.pkinit_validation.specs.Judged.{JudgedRecord}
use Rattle.pkinit_validation.specs.SignedContents.{judged_in}
use Rattle.pkinit_validation.specs.Signers.{signed_by}
use Rattle.pkinit_validation.specs.Trusted.{trusted}
use Rattle.pkinit_validation.specs.declared.refusal.TrustRefusal.{TrustRefusal}
use Rattle.pkinit_validation.specs.declared.refusal.TrustRefusal.TheVariants.{InvalidSignature}
use Rattle.krb_realm.specs.Agreements.{IsTrusted, Signs}
use Rattle.krb_realm.proofs.Rows.{by_refuse, no_others}

module _ (own other : KeysRecord) (content_type content certificate bytes : List ℕ) (w : IsWritten own.sign content_type content certificate bytes) where
  abbrev judged : JudgedRecord
  judged = judged_in (written_parts own.sign content_type content certificate bytes w)

  -- its certificate is the one that is read
  same_certificate : (read : ReadRecord) → IsCertificate certificate read → read.certificate ≡ w.value
  same_certificate read is = (certificate_impl.ghosts.laws.one read.certificate w.value certificate is.count w.count is.spelled w.certificate_spelled).0

  verified : (holder : Certificate) (IsText : List ℕ → Type 0) → Signs own other holder IsText → IsText (signed_bytes content_type content)
      → other.verifies holder.tbs_certificate.subject_public_key_info w.signed.algorithm (signed_bytes content_type content) w.signed.signature ≡ true
  verified holder IsText signs this =
      let made = signs (signed_bytes content_type content) this in
      let some : Some made.0 ≡ Some w.signed = sym made.1 ∙ w.signs in
      let same : made.0 ≡ w.signed = cc (some) in
      subst (λ (s : Signed). other.verifies holder.tbs_certificate.subject_public_key_info s.algorithm (signed_bytes content_type content) s.signature ≡ true) same made.2

  is_signed : (read : ReadRecord) (IsText : List ℕ → Type 0) → IsCertificate certificate read → Signs own other read.certificate IsText
      → IsText (signed_bytes content_type content) → (signed_by other read.certificate judged).gives (Ok tt)
  is_signed read IsText is signs this =
      let same = same_certificate read is in
      by_refuse {T = Unit {0}} {E = TrustRefusal} (not (pointwise nat_eq (name_bytes read.certificate.tbs_certificate.issuer) (name_bytes w.value.tbs_certificate.issuer))) InvalidSignature _ (Ok tt)
      (no_others (name_bytes read.certificate.tbs_certificate.issuer) (name_bytes w.value.tbs_certificate.issuer) (ap (λ (c : Certificate). name_bytes c.tbs_certificate.issuer) same))
      (by_refuse {T = Unit {0}} {E = TrustRefusal} (not (pointwise nat_eq (integer_content read.certificate.tbs_certificate.serial_number) (integer_content w.value.tbs_certificate.serial_number)))
      InvalidSignature _ (Ok tt)
      (no_others (integer_content read.certificate.tbs_certificate.serial_number) (integer_content w.value.tbs_certificate.serial_number)
      (ap (λ (c : Certificate). integer_content c.tbs_certificate.serial_number) same))
      (by_refuse {T = Unit {0}} {E = TrustRefusal} (not (pointwise nat_eq (sha256 content) (sha256 content))) InvalidSignature _ (Ok tt) (no_others (sha256 content) (sha256 content) refl)
      (by_refuse {T = Unit {0}} {E = TrustRefusal}
      (not (other.verifies read.certificate.tbs_certificate.subject_public_key_info w.signed.algorithm (signed_bytes content_type content) w.signed.signature)) InvalidSignature
      (done (Ok tt)) (Ok tt) (ap not (verified read.certificate IsText signs this)) refl)))

  -- the content that its holder signs is trusted
  pub is_trusted : (expected : ExpectedRecord) (IsText : List ℕ → Type 0) → IsTrusted own other expected certificate IsText → IsText (signed_bytes content_type content)
      → (trusted other expected judged).gives (Ok tt)
  is_trusted expected IsText trusted_one this =
      inl (trusted_one.read, trusted_one.accepts.reads, inl (tt, trusted_one.accepts.accepts, is_signed trusted_one.read IsText trusted_one.accepts.reads trusted_one.signs this))
