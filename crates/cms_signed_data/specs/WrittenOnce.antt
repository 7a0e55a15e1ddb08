-- A party writes at most one SignedData of a content with a certificate's bytes.
use Rattle.std.proofs.Common.{◌≡◌, ℕ, List, [], ◌∷◌, Option, None, Some, refl, sym, ap, ◌∙◌, subst}
use Rattle.asn1_der.specs.Length.{element}
use Rattle.picky_asn1_der.specs.Parts.{IsPart}
use Rattle.picky_asn1_der.specs.PartLaws.{part-one}
use Rattle.picky_asn1_der.specs.PathLaws.{LeadsTo, go_on, held_at, part_there}
use Rattle.x509_certificates.specs.contracts.certificate.CertificateSpelled.TheImpl as certificate
use Rattle.x509_fields.specs.contracts.raw_algorithm_identifier.RawAlgorithmIdentifierSpelled.TheImpl as raw_spelled
use Rattle.x509_keys.specs.declared.functions.Signed.{Signed}
use Rattle.cms_signed_data.specs.PartSpellings.{PartSpellings}
use Rattle.cms_signed_data.specs.Parts.{AreCertificates, AreDigests, AreSigners, IsContentInfo, IsSignedData, IsTagged, certificate_place, certificates_are, digests_are, signed_are, signers_are, tagged_are}
use Rattle.cms_signed_data.specs.SignedRows.{content_row, signed_row}
use Rattle.cms_signed_data.specs.contracts.content_info.ContentInfoSpelled.TheImpl as content_info
use Rattle.cms_signed_data.specs.contracts.form.ContentInfoOfForm.TheImpl as of_form
use Rattle.cms_signed_data.specs.contracts.signer_info.SignerInfoSpelled.TheImpl as signer_info
use Rattle.cms_signed_data.specs.declared.content_info.ContentInfo.{ContentInfo}
use Rattle.cms_signed_data.specs.declared.set_of_one.SetOfOne.{SetOfOne}
use Rattle.cms_signed_data.specs.declared.signer_info.SignerInfo.{SignerInfo}
use Rattle.x509_fields.specs.declared.raw_algorithm_identifier.RawAlgorithmIdentifier.{RawAlgorithmIdentifier}
use Rattle.cms_signed_data.specs.Written.{IsUnsigned, IsWritten, info_of}
use Rattle.cms_signed_data.specs.SignedRowLaws.{HasOneStrict, held_strict, fourth_leads, five_same, second_leads, two_same, none_before, whole_count}
use Rattle.asn1_der.specs.Octets.{context_0_octet}

abbrev p : PartSpellings
p = of_form.ghosts.spellings

one_oid : HasOneStrict p.oid
one_oid v x y s t = s.0.1 ∙ sym t.0.1

one_version : HasOneStrict p.version
one_version v x y s t = s.0.1 ∙ sym t.0.1

one_encapsulated : HasOneStrict p.encapsulated
one_encapsulated v x y s t = s.0.1 ∙ sym t.0.1

one_digest : HasOneStrict p.digest_algorithm
one_digest v x y s t = raw_spelled.ghosts.laws.only v x s ∙ sym (raw_spelled.ghosts.laws.only v y t)

one_signer : HasOneStrict signer_info.ghosts.spells
one_signer v x y s t = signer_info.ghosts.laws.only v x s ∙ sym (signer_info.ghosts.laws.only v y t)

-- signed data that holds these bytes of a certificate, in which nothing else deviates
module _ (info : ContentInfo) (given : List ℕ) (n : ℕ) (is_given : p.certificate info.content.0.certificates.0 given n) where
  module _ (b : List ℕ) (s : IsContentInfo p info b n) (at : IsPart b certificate_place given) where
    abbrev held : List ℕ
    held = s.1.4.3.1.0

    abbrev is_data : IsSignedData p info.content.0 held s.1.4.1
    is_data = s.1.4.3.1.1

    abbrev inner : List ℕ
    inner = is_data.1.4.4.4.3.1.0

    inner_there : IsPart b certificate_place inner
    inner_there =
        let tagged = s.1.4.3.0 in
        let certificates = is_data.1.4.4.4.3.0 in
        let to_data : LeadsTo b (1 ∷ 0 ∷ []) held =
        go_on b tagged held (1 ∷ []) (0 ∷ []) (second_leads p.oid (IsTagged p) (content_row info) p.oid_are (tagged_are p) b n s)
        (held_at context_0_octet held tagged refl (signed_are p info.content.0 held s.1.4.1 is_data) s.1.4.3.1.2) in
        let to_certificates : LeadsTo held (3 ∷ []) certificates =
        fourth_leads p.version (AreDigests p) p.encapsulated (AreCertificates p) (AreSigners p) (signed_row info.content.0)
        p.version_are (digests_are p) p.encapsulated_are (certificates_are p) (signers_are p) held s.1.4.1 is_data in
        let to_inner : LeadsTo certificates (0 ∷ []) inner =
        held_at context_0_octet inner certificates refl (p.certificate_are info.content.0.certificates.0 inner is_data.1.4.4.4.1 is_data.1.4.4.4.3.1.1) is_data.1.4.4.4.3.1.2 in
        part_there b inner certificate_place
        (go_on b held inner (1 ∷ 0 ∷ []) (3 ∷ 0 ∷ []) to_data (go_on held certificates inner (3 ∷ []) (0 ∷ []) to_certificates to_inner))

    -- the certificate in it is the given one
    inner_is : inner ≡ given
    inner_is = part-one certificate_place b inner given inner_there at

    -- the certificate has the count of the whole
    inner_count : is_data.1.4.4.4.1 ≡ n
    inner_count =
        (certificate.ghosts.laws.one info.content.0.certificates.0 info.content.0.certificates.0 given is_data.1.4.4.4.1 n
        (subst (λ (l : List ℕ). p.certificate info.content.0.certificates.0 l is_data.1.4.4.4.1) inner_is is_data.1.4.4.4.3.1.1) is_given).1

    counts : (s.1.4.1 ≡ n) × (is_data.1.4.4.4.1 ≡ s.1.4.1)
    counts =
        whole_count n s.1.1 s.1.4.1 s.1.2 s.1.4.2 is_data.1.1 is_data.1.4.1 is_data.1.4.4.1 is_data.1.4.4.4.1 is_data.1.4.4.4.4.1
        is_data.1.2 is_data.1.4.2 is_data.1.4.4.2 is_data.1.4.4.4.2 is_data.1.4.4.4.4.2
        s.1.5 s.1.4.5 s.1.4.4.1 is_data.1.5 is_data.1.4.5 is_data.1.4.4.5 is_data.1.4.4.4.5 is_data.1.4.4.4.4.5 is_data.1.4.4.4.4.4.1 inner_count

    no_count : s.1.1 ≡ 0
    no_count = none_before n s.1.1 s.1.4.1 s.1.2 s.1.4.2 s.1.5 s.1.4.5 s.1.4.4.1 counts.0

  one_info : (a b : List ℕ) → IsContentInfo p info a n → IsContentInfo p info b n → IsPart a certificate_place given → IsPart b certificate_place given → a ≡ b
  one_info a b s t at also =
      let x : IsSignedData p info.content.0 s.1.4.3.1.0 s.1.4.1 = s.1.4.3.1.1 in
      let y : IsSignedData p info.content.0 t.1.4.3.1.0 t.1.4.1 = t.1.4.3.1.1 in
      let certificates : x.1.4.4.4.3.0 ≡ y.1.4.4.4.3.0 =
      x.1.4.4.4.3.1.2 ∙ ap (element context_0_octet) (inner_is a s at ∙ sym (inner_is b t also)) ∙ sym y.1.4.4.4.3.1.2 in
      let held : s.1.4.3.1.0 ≡ t.1.4.3.1.0 =
      five_same p.version (AreDigests p) p.encapsulated (AreCertificates p) (AreSigners p) (signed_row info.content.0)
      one_version (held_strict p.digest_algorithm one_digest 49 (λ (w : SetOfOne RawAlgorithmIdentifier). w.0)) one_encapsulated
      (held_strict signer_info.ghosts.spells one_signer 49 (λ (w : SetOfOne SignerInfo). w.0))
      s.1.4.3.1.0 t.1.4.3.1.0 s.1.4.1 t.1.4.1 x y (counts a s at).1 (counts b t also).1 certificates in
      let tagged : s.1.4.3.0 ≡ t.1.4.3.0 = s.1.4.3.1.2 ∙ ap (element context_0_octet) held ∙ sym t.1.4.3.1.2 in
      two_same p.oid (IsTagged p) (content_row info) one_oid a b n n s t (no_count a s at) (no_count b t also) tagged

-- what is written is one
pub one_written : (sign : List ℕ → Option Signed) (content_type content given a b : List ℕ)
    → IsWritten sign content_type content given a → IsWritten sign content_type content given b → a ≡ b
one_written sign content_type content given a b w x =
    let certificates = certificate.ghosts.laws.one x.value w.value given x.count w.count x.certificate_spelled w.certificate_spelled in
    let some : Some x.signed ≡ Some w.signed = sym x.signs ∙ w.signs in
    let signed : x.signed ≡ w.signed = cc (some) in
    let infos : info_of content_type content x.value x.signed ≡ info_of content_type content w.value w.signed =
    λ i. info_of content_type content (certificates.0 i) (signed i) in
    let moved : content_info.ghosts.spells (info_of content_type content w.value w.signed) b w.count =
    subst (λ (n : ℕ). content_info.ghosts.spells (info_of content_type content w.value w.signed) b n) certificates.1
    (subst (λ (info : ContentInfo). content_info.ghosts.spells info b x.count) infos x.spelled) in
    one_info (info_of content_type content w.value w.signed) given w.count w.certificate_spelled a b w.spelled moved w.certificate_at x.certificate_at

-- key functions that sign nothing write nothing
pub unsigned_none : (sign : List ℕ → Option Signed) (content_type content given bytes : List ℕ)
    → IsUnsigned sign content_type content given → IsWritten sign content_type content given bytes → ⊥
unsigned_none sign content_type content given bytes unsigned w =
    let never : None ≡ Some w.signed = sym unsigned.1 ∙ w.signs in
    absurd (cc (never))
