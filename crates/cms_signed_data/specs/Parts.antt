-- Where signed data holds its content, its certificate, and the parts of its signer (RFC 5652, section 5).
use Rattle.std.proofs.Common.{ℕ, suc, List, [], ◌∷◌, refl, subst}
use Rattle.std.specs.Prelude.{⊤}
use Rattle.asn1_der.specs.Length.{element}
use Rattle.picky_asn1_der.specs.Parts.{IsPart}
use Rattle.picky_asn1_der.specs.PathLaws.{AreSome, LeadsTo, LeadsIn, in_element, go_on, part_there}
use Rattle.x509_certificates.specs.declared.certificate.Certificate.{Certificate}
use Rattle.x509_spelling.specs.declared.enclosed.Explicit.{Explicit}
use Rattle.x509_fields.specs.declared.raw_algorithm_identifier.RawAlgorithmIdentifier.{RawAlgorithmIdentifier}
use Rattle.x509_spelling.specs.Spellings.{Holds}
use Rattle.cms_signed_data.specs.declared.content_info.ContentInfo.{ContentInfo}
use Rattle.cms_signed_data.specs.declared.set_of_one.SetOfOne.{SetOfOne}
use Rattle.cms_signed_data.specs.declared.signed_data.SignedData.{SignedData}
use Rattle.cms_signed_data.specs.declared.signer_info.SignerInfo.{SignerInfo}
use Rattle.cms_signed_data.specs.contracts.content_info.ContentInfoSpelled.TheImpl as content_info
use Rattle.cms_signed_data.specs.contracts.form.ContentInfoOfForm.TheImpl as of_form
use Rattle.cms_signed_data.specs.PartSpellings.{PartSpellings}
use Rattle.cms_signed_data.specs.SignedRows.{signer_row, signed_row, content_row}
use Rattle.cms_signed_data.specs.SpelledElements.{SpellsElements, Ends, Row, Found, ended, held_are, row_some, row_front, row_behind, found_on, alone_in, second_in}
use Rattle.asn1_der.specs.Octets.{context_0_octet, octet_string_octet, sequence_octet, set_octet}

-- The path from the ContentInfo to the OCTET STRING eContent (RFC 5652, section 5.2).
abbrev pub content_place : List ℕ
content_place = 1 ∷ 0 ∷ 2 ∷ 1 ∷ 0 ∷ []

-- The path from the ContentInfo to the one certificate (RFC 5652, section 5.1).
abbrev pub certificate_place : List ℕ
certificate_place = 1 ∷ 0 ∷ 3 ∷ 0 ∷ []

-- The path from the ContentInfo to signedAttrs of the one signer (RFC 5652, section 5.3).
abbrev pub attributes_place : List ℕ
attributes_place = 1 ∷ 0 ∷ 4 ∷ 0 ∷ 3 ∷ []

-- The path from the ContentInfo to the OCTET STRING of message-digest (RFC 5652, section 11.2).
abbrev pub digest_place : List ℕ
digest_place = 1 ∷ 0 ∷ 4 ∷ 0 ∷ 3 ∷ 1 ∷ 1 ∷ 0 ∷ []

-- The path from the ContentInfo to the OCTET STRING signature of the one signer (RFC 5652, section 5.3).
abbrev pub signature_place : List ℕ
signature_place = 1 ∷ 0 ∷ 4 ∷ 0 ∷ 5 ∷ []

-- the parts of some bytes: the certificate and the signed attributes are spelled so, and these are the octets of the others
pub record HasParts (certificate attributes : List ℕ → ℕ → Type 0) (content digest signature bytes : List ℕ) : Type 0 where
  pub certificate_at : Found certificate bytes certificate_place
  pub attributes_at : Found attributes bytes attributes_place
  pub content_at : IsPart bytes content_place (element octet_string_octet content)
  pub digest_at : IsPart bytes digest_place (element octet_string_octet digest)
  pub signature_at : IsPart bytes signature_place (element octet_string_octet signature)

-- What is said of six fields of a SEQUENCE holds of the number 3 and of the number 5.
module _ {V I D A G S : Type 0} (v_spells : V → List ℕ → ℕ → Type 0) (v_are : SpellsElements v_spells) (i_spells : I → List ℕ → ℕ → Type 0) (i_are : SpellsElements i_spells)
    (d_spells : D → List ℕ → ℕ → Type 0) (d_are : SpellsElements d_spells) (a_spells : A → List ℕ → ℕ → Type 0) (a_are : SpellsElements a_spells)
    (g_spells : G → List ℕ → ℕ → Type 0) (g_are : SpellsElements g_spells) (s_spells : S → List ℕ → ℕ → Type 0) (s_are : SpellsElements s_spells)
    (f : V × (I × (D × (A × (G × (S × ⊤)))))) (b : List ℕ) (n : ℕ)
    (s : Holds sequence_octet (Row v_spells (Row i_spells (Row d_spells (Row a_spells (Row g_spells (Row s_spells Ends)))))) f b n) where
  abbrev s0 : Row v_spells (Row i_spells (Row d_spells (Row a_spells (Row g_spells (Row s_spells Ends))))) f s.0 n
  s0 = s.1

  abbrev s1 : Row i_spells (Row d_spells (Row a_spells (Row g_spells (Row s_spells Ends)))) f.1 s0.0 s0.2
  s1 = s0.4

  abbrev s2 : Row d_spells (Row a_spells (Row g_spells (Row s_spells Ends))) f.1.1 s1.0 s1.2
  s2 = s1.4

  abbrev s3 : Row a_spells (Row g_spells (Row s_spells Ends)) f.1.1.1 s2.0 s2.2
  s3 = s2.4

  abbrev s4 : Row g_spells (Row s_spells Ends) f.1.1.1.1 s3.0 s3.2
  s4 = s3.4

  abbrev s5 : Row s_spells Ends f.1.1.1.1.1 s4.0 s4.2
  s5 = s4.4

  some_5 : AreSome s5.0
  some_5 = ended f.1.1.1.1.1.1 s5.0 s5.2 s5.4

  some_4 : AreSome s4.0
  some_4 = row_some s_spells s_are Ends f.1.1.1.1.1 s4.0 s4.2 s5 some_5

  some_3 : AreSome s3.0
  some_3 = row_some g_spells g_are (Row s_spells Ends) f.1.1.1.1 s3.0 s3.2 s4 some_4

  behind_2 : (k : ℕ) (inner : List ℕ) → LeadsIn s2.0 k inner → LeadsTo b (suc (suc (suc k)) ∷ []) inner
  behind_2 k inner at =
      in_element sequence_octet s.0 b refl s.2 (suc (suc (suc k))) inner
      (row_behind v_spells v_are (Row i_spells (Row d_spells (Row a_spells (Row g_spells (Row s_spells Ends))))) f s.0 n s0 (suc (suc k)) inner
      (row_behind i_spells i_are (Row d_spells (Row a_spells (Row g_spells (Row s_spells Ends)))) f.1 s0.0 s0.2 s1 (suc k) inner
      (row_behind d_spells d_are (Row a_spells (Row g_spells (Row s_spells Ends))) f.1.1 s1.0 s1.2 s2 k inner at)))

  pub attributes_in : Found (a_spells f.1.1.1.0) b (3 ∷ [])
  attributes_in = record {
    inner = s3.3.0;
    count = s3.1;
    is = s3.3.1;
    leads = behind_2 0 s3.3.0 (row_front a_spells a_are (Row g_spells (Row s_spells Ends)) f.1.1.1 s2.0 s2.2 s3 some_3);
  }

  pub signature_in : Found (s_spells f.1.1.1.1.1.0) b (5 ∷ [])
  signature_in = record {
    inner = s5.3.0;
    count = s5.1;
    is = s5.3.1;
    leads =
        behind_2 2 s5.3.0
        (row_behind a_spells a_are (Row g_spells (Row s_spells Ends)) f.1.1.1 s2.0 s2.2 s3 1 s5.3.0
        (row_behind g_spells g_are (Row s_spells Ends) f.1.1.1.1 s3.0 s3.2 s4 0 s5.3.0
        (row_front s_spells s_are Ends f.1.1.1.1.1 s4.0 s4.2 s5 some_5)));
  }

-- What is said of five fields of a SEQUENCE holds of the numbers 2 to 4.
module _ {V D E C T : Type 0} (v_spells : V → List ℕ → ℕ → Type 0) (v_are : SpellsElements v_spells) (d_spells : D → List ℕ → ℕ → Type 0) (d_are : SpellsElements d_spells)
    (e_spells : E → List ℕ → ℕ → Type 0) (e_are : SpellsElements e_spells) (c_spells : C → List ℕ → ℕ → Type 0) (c_are : SpellsElements c_spells)
    (t_spells : T → List ℕ → ℕ → Type 0) (t_are : SpellsElements t_spells)
    (f : V × (D × (E × (C × (T × ⊤))))) (b : List ℕ) (n : ℕ) (s : Holds sequence_octet (Row v_spells (Row d_spells (Row e_spells (Row c_spells (Row t_spells Ends))))) f b n) where
  abbrev r0 : Row v_spells (Row d_spells (Row e_spells (Row c_spells (Row t_spells Ends)))) f s.0 n
  r0 = s.1

  abbrev r1 : Row d_spells (Row e_spells (Row c_spells (Row t_spells Ends))) f.1 r0.0 r0.2
  r1 = r0.4

  abbrev r2 : Row e_spells (Row c_spells (Row t_spells Ends)) f.1.1 r1.0 r1.2
  r2 = r1.4

  abbrev r3 : Row c_spells (Row t_spells Ends) f.1.1.1 r2.0 r2.2
  r3 = r2.4

  abbrev r4 : Row t_spells Ends f.1.1.1.1 r3.0 r3.2
  r4 = r3.4

  more_4 : AreSome r4.0
  more_4 = ended f.1.1.1.1.1 r4.0 r4.2 r4.4

  more_3 : AreSome r3.0
  more_3 = row_some t_spells t_are Ends f.1.1.1.1 r3.0 r3.2 r4 more_4

  more_2 : AreSome r2.0
  more_2 = row_some c_spells c_are (Row t_spells Ends) f.1.1.1 r2.0 r2.2 r3 more_3

  behind_1 : (k : ℕ) (inner : List ℕ) → LeadsIn r1.0 k inner → LeadsTo b (suc (suc k) ∷ []) inner
  behind_1 k inner at =
      in_element sequence_octet s.0 b refl s.2 (suc (suc k)) inner
      (row_behind v_spells v_are (Row d_spells (Row e_spells (Row c_spells (Row t_spells Ends)))) f s.0 n r0 (suc k) inner
      (row_behind d_spells d_are (Row e_spells (Row c_spells (Row t_spells Ends))) f.1 r0.0 r0.2 r1 k inner at))

  pub encapsulated_in : Found (e_spells f.1.1.0) b (2 ∷ [])
  encapsulated_in = record {
    inner = r2.3.0;
    count = r2.1;
    is = r2.3.1;
    leads = behind_1 0 r2.3.0 (row_front e_spells e_are (Row c_spells (Row t_spells Ends)) f.1.1 r1.0 r1.2 r2 more_2);
  }

  pub certificates_in : Found (c_spells f.1.1.1.0) b (3 ∷ [])
  certificates_in = record {
    inner = r3.3.0;
    count = r3.1;
    is = r3.3.1;
    leads =
        behind_1 1 r3.3.0
        (row_behind e_spells e_are (Row c_spells (Row t_spells Ends)) f.1.1 r1.0 r1.2 r2 0 r3.3.0
        (row_front c_spells c_are (Row t_spells Ends) f.1.1.1 r2.0 r2.2 r3 more_3));
  }

  pub signers_in : Found (t_spells f.1.1.1.1.0) b (4 ∷ [])
  signers_in = record {
    inner = r4.3.0;
    count = r4.1;
    is = r4.3.1;
    leads =
        behind_1 2 r4.3.0
        (row_behind e_spells e_are (Row c_spells (Row t_spells Ends)) f.1.1 r1.0 r1.2 r2 1 r4.3.0
        (row_behind c_spells c_are (Row t_spells Ends) f.1.1.1 r2.0 r2.2 r3 0 r4.3.0
        (row_front t_spells t_are Ends f.1.1.1.1 r3.0 r3.2 r4 more_4)));
  }

-- signed data by the spellings of its parts
module _ (p : PartSpellings) where
  abbrev pub IsSignerInfo : SignerInfo → List ℕ → ℕ → Type 0
  IsSignerInfo v = Holds sequence_octet (Row p.version (Row p.sid (Row p.digest_algorithm (Row p.attributes (Row p.algorithm (Row p.octets Ends)))))) (signer_row v)

  abbrev pub AreDigests : SetOfOne RawAlgorithmIdentifier → List ℕ → ℕ → Type 0
  AreDigests v = Holds set_octet p.digest_algorithm v.0

  abbrev pub AreCertificates : Explicit 0 Certificate → List ℕ → ℕ → Type 0
  AreCertificates v = Holds context_0_octet p.certificate v.0

  abbrev pub AreSigners : SetOfOne SignerInfo → List ℕ → ℕ → Type 0
  AreSigners v = Holds set_octet IsSignerInfo v.0

  abbrev pub IsSignedData : SignedData → List ℕ → ℕ → Type 0
  IsSignedData v = Holds sequence_octet (Row p.version (Row AreDigests (Row p.encapsulated (Row AreCertificates (Row AreSigners Ends))))) (signed_row v)

  abbrev pub IsTagged : Explicit 0 SignedData → List ℕ → ℕ → Type 0
  IsTagged v = Holds context_0_octet IsSignedData v.0

  abbrev pub IsContentInfo : ContentInfo → List ℕ → ℕ → Type 0
  IsContentInfo v = Holds sequence_octet (Row p.oid (Row IsTagged Ends)) (content_row v)

  pub signer_are : SpellsElements IsSignerInfo
  signer_are v b n s = (sequence_octet, s.0, refl, s.2)

  pub signed_are : SpellsElements IsSignedData
  signed_are v b n s = (sequence_octet, s.0, refl, s.2)

  pub digests_are : SpellsElements AreDigests
  digests_are = held_are p.digest_algorithm set_octet refl (λ w. w.0)

  pub certificates_are : SpellsElements AreCertificates
  certificates_are = held_are p.certificate context_0_octet refl (λ w. w.0)

  pub signers_are : SpellsElements AreSigners
  signers_are = held_are IsSignerInfo set_octet refl (λ w. w.0)

  pub tagged_are : SpellsElements IsTagged
  tagged_are = held_are IsSignedData context_0_octet refl (λ w. w.0)

  abbrev pub Holding : ContentInfo → List ℕ → Type 0
  Holding v bytes =
      HasParts (p.certificate v.content.0.certificates.0) (p.attributes v.content.0.signer_infos.0.signed_attributes)
      v.content.0.encap_content_info.content.0 v.content.0.signer_infos.0.signed_attributes.message_digest.values.0 v.content.0.signer_infos.0.signature bytes

  module _ (v : ContentInfo) (b : List ℕ) (n : ℕ) (s : IsContentInfo v b n) where
    abbrev signs : SignedData
    signs = v.content.0

    abbrev signer : SignerInfo
    signer = v.content.0.signer_infos.0

    signed_at : Found (IsSignedData signs) b (1 ∷ 0 ∷ [])
    signed_at = alone_in IsSignedData signed_are context_0_octet refl signs b (1 ∷ []) (second_in p.oid p.oid_are IsTagged tagged_are (content_row v) b n s)

    encapsulated_at : Found (p.encapsulated signs.encap_content_info) signed_at.inner (2 ∷ [])
    encapsulated_at =
        encapsulated_in p.version p.version_are AreDigests digests_are p.encapsulated p.encapsulated_are AreCertificates certificates_are AreSigners signers_are
        (signed_row signs) signed_at.inner signed_at.count signed_at.is

    certificate_in : Found (p.certificate signs.certificates.0) signed_at.inner (3 ∷ 0 ∷ [])
    certificate_in =
        alone_in p.certificate p.certificate_are context_0_octet refl signs.certificates.0 signed_at.inner (3 ∷ [])
        (certificates_in p.version p.version_are AreDigests digests_are p.encapsulated p.encapsulated_are AreCertificates certificates_are AreSigners signers_are
        (signed_row signs) signed_at.inner signed_at.count signed_at.is)

    signer_in : Found (IsSignerInfo signer) signed_at.inner (4 ∷ 0 ∷ [])
    signer_in =
        alone_in IsSignerInfo signer_are set_octet refl signer signed_at.inner (4 ∷ [])
        (signers_in p.version p.version_are AreDigests digests_are p.encapsulated p.encapsulated_are AreCertificates certificates_are AreSigners signers_are
        (signed_row signs) signed_at.inner signed_at.count signed_at.is)

    signer_at : Found (IsSignerInfo signer) b (1 ∷ 0 ∷ 4 ∷ 0 ∷ [])
    signer_at = found_on (IsSignedData signs) (IsSignerInfo signer) b (1 ∷ 0 ∷ []) (4 ∷ 0 ∷ []) signed_at signer_in

    attributes_found : Found (p.attributes signer.signed_attributes) b attributes_place
    attributes_found =
        found_on (IsSignerInfo signer) (p.attributes signer.signed_attributes) b (1 ∷ 0 ∷ 4 ∷ 0 ∷ []) (3 ∷ []) signer_at
        (attributes_in p.version p.version_are p.sid p.sid_are p.digest_algorithm p.digest_algorithm_are p.attributes p.attributes_are p.algorithm p.algorithm_are p.octets p.octets_are
        (signer_row signer) signer_at.inner signer_at.count signer_at.is)

    signature_found : Found (p.octets signer.signature) b signature_place
    signature_found =
        found_on (IsSignerInfo signer) (p.octets signer.signature) b (1 ∷ 0 ∷ 4 ∷ 0 ∷ []) (5 ∷ []) signer_at
        (signature_in p.version p.version_are p.sid p.sid_are p.digest_algorithm p.digest_algorithm_are p.attributes p.attributes_are p.algorithm p.algorithm_are p.octets p.octets_are
        (signer_row signer) signer_at.inner signer_at.count signer_at.is)

    content_led : LeadsTo b content_place (element octet_string_octet signs.encap_content_info.content.0)
    content_led =
        go_on b signed_at.inner (element octet_string_octet signs.encap_content_info.content.0) (1 ∷ 0 ∷ []) (2 ∷ 1 ∷ 0 ∷ []) signed_at.leads
        (go_on signed_at.inner encapsulated_at.inner (element octet_string_octet signs.encap_content_info.content.0) (2 ∷ []) (1 ∷ 0 ∷ []) encapsulated_at.leads
        (p.content_there signs.encap_content_info encapsulated_at.inner encapsulated_at.count encapsulated_at.is))

    digest_led : LeadsTo b digest_place (element octet_string_octet signer.signed_attributes.message_digest.values.0)
    digest_led =
        go_on b attributes_found.inner (element octet_string_octet signer.signed_attributes.message_digest.values.0) attributes_place (1 ∷ 1 ∷ 0 ∷ []) attributes_found.leads
        (p.digest_there signer.signed_attributes attributes_found.inner attributes_found.count attributes_found.is)

    pub has_parts : Holding v b
    has_parts = record {
      certificate_at = found_on (IsSignedData signs) (p.certificate signs.certificates.0) b (1 ∷ 0 ∷ []) (3 ∷ 0 ∷ []) signed_at certificate_in;
      attributes_at = attributes_found;
      content_at = part_there b (element octet_string_octet signs.encap_content_info.content.0) content_place content_led;
      digest_at = part_there b (element octet_string_octet signer.signed_attributes.message_digest.values.0) digest_place digest_led;
      signature_at =
          subst (λ (l : List ℕ). IsPart b signature_place l) (p.octets_is signer.signature signature_found.inner signature_found.count signature_found.is)
          (part_there b signature_found.inner signature_place signature_found.leads);
    }

-- what spells signed data holds its parts at these places
pub parts_held : (info : ContentInfo) (bytes : List ℕ) (n : ℕ) → content_info.ghosts.spells info bytes n → Holding of_form.ghosts.spellings info bytes
parts_held info bytes n s = has_parts of_form.ghosts.spellings info bytes n s
