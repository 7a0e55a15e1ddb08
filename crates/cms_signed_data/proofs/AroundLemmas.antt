-- Spellings of the parts, put together, spell the whole; and the certificate is there.
use Rattle.std.proofs.Common.{◌≡◌, ℕ, ◌+◌, true, List, [], ◌∷◌, ◌++◌, refl, ap, ◌∙◌, subst, arith}
use Rattle.asn1_der.specs.Length.{element}
use Rattle.picky_asn1_der.specs.Raw.{Raw, has_low_number, raw_tree}
use Rattle.asn1_der.specs.Tree.{der}
use Rattle.asn1_der.proofs.Leaf.{der-leaf}
use Rattle.picky_asn1_der.specs.PathLaws.{IsElement, AreSome, LeadsTo, LeadsIn, in_element, some_more, at_front, behind_front, go_on, part_there, held_at, second_at}
use Rattle.x509_certificates.specs.declared.certificate.Certificate.{Certificate}
use Rattle.x509_keys.specs.declared.functions.Signed.{Signed}
use Rattle.cms_signed_data.specs.PartSpellings.{PartSpellings}
use Rattle.cms_signed_data.specs.Parts.{certificate_place, AreDigests, AreCertificates, AreSigners, IsSignedData, IsTagged, digests_are, certificates_are, signers_are, tagged_are, signed_are}
use Rattle.cms_signed_data.specs.SignedRows.{signer_row, signed_row, content_row}
use Rattle.cms_signed_data.specs.SpelledElements.{Ends, Row, in_front}
use Rattle.cms_signed_data.specs.contracts.content_info.ContentInfoSpelled.TheImpl as content_info
use Rattle.cms_signed_data.specs.contracts.form.ContentInfoOfForm.TheImpl as of_form
use Rattle.cms_signed_data.specs.contracts.signer_info.SignerInfoSpelled.TheImpl as signer_info
use Rattle.cms_signed_data.specs.declared.signed_attributes.SignedAttributes.{SignedAttributes}
use Rattle.cms_signed_data.specs.declared.signer_info.IssuerAndSerialNumber.{IssuerAndSerialNumber}
use Rattle.cms_signed_data.specs.declared.signer_info.SignerInfo.{SignerInfo}
use Rattle.cms_signed_data.specs.Around.{IsDataAround, IsInfoAround}
use Rattle.cms_signed_data.specs.Assembled.{assembled_signer, assembled_data, assembled}
use Rattle.cms_signed_data.specs.Written.{sha256_algorithm, signer_of, encapsulated_of, data_with, info_with}
use Rattle.x509_oids.specs.Identifiers as oids

-- an element of any type is its identifier octet and its content
pub raw_written : (raw : Raw) (first : ℕ) (content : List ℕ) → raw ≡ record { first = first; content = content } → has_low_number first ≡ true
    → (bytes : List ℕ) → bytes ≡ der (raw_tree raw) → bytes ≡ element first content
raw_written raw first content same low bytes is =
    is ∙ ap (λ (r : Raw). der (raw_tree r)) same ∙ der-leaf (has_low_number first) first content low

-- SEQUENCEs of the same parts

pub two_same : (a b x y bytes : List ℕ) → bytes ≡ element 48 (a ++ (b ++ [])) → a ≡ x → b ≡ y → bytes ≡ element 48 (x ++ (y ++ []))
two_same a b x y bytes is p q = is ∙ (λ i. element 48 (p i ++ (q i ++ [])))

pub five_same : (a b c d e v w x y z bytes : List ℕ) → bytes ≡ element 48 (a ++ (b ++ (c ++ (d ++ (e ++ []))))) → a ≡ v → b ≡ w → c ≡ x → d ≡ y → e ≡ z
    → bytes ≡ element 48 (v ++ (w ++ (x ++ (y ++ (z ++ [])))))
five_same a b c d e v w x y z bytes is p q r s t = is ∙ (λ i. element 48 (p i ++ (q i ++ (r i ++ (s i ++ (t i ++ []))))))

pub six_same : (a b c d e f u v w x y z bytes : List ℕ) → bytes ≡ element 48 (a ++ (b ++ (c ++ (d ++ (e ++ (f ++ [])))))) → a ≡ u → b ≡ v → c ≡ w → d ≡ x → e ≡ y → f ≡ z
    → bytes ≡ element 48 (u ++ (v ++ (w ++ (x ++ (y ++ (z ++ []))))))
six_same a b c d e f u v w x y z bytes is p q r s t o = is ∙ (λ i. element 48 (p i ++ (q i ++ (r i ++ (s i ++ (t i ++ (o i ++ [])))))))

abbrev p : PartSpellings
p = of_form.ghosts.spellings

pub signer_built : (sid : IssuerAndSerialNumber) (held : SignedAttributes) (signed : Signed) (version_b sid_b digest_b attributes_b algorithm_b signature_b bytes : List ℕ)
    → bytes ≡ assembled_signer version_b sid_b digest_b attributes_b algorithm_b signature_b
    → p.version 1 version_b 0 → p.sid sid sid_b 0 → p.digest_algorithm sha256_algorithm digest_b 0 → p.attributes held attributes_b 0
    → p.algorithm signed.algorithm algorithm_b 0 → p.octets signed.signature signature_b 0
    → signer_info.ghosts.spells (signer_of sid held signed) bytes 0
signer_built sid held signed version_b sid_b digest_b attributes_b algorithm_b signature_b bytes same is_version is_sid is_digest are_attributes is_algorithm is_signature =
    let row = signer_row (signer_of sid held signed) in
    let r5 : Row p.octets Ends row.1.1.1.1.1 (signature_b ++ []) 0 = in_front p.octets p.octets_are Ends row.1.1.1.1.1 signature_b [] 0 0 is_signature (refl, refl) in
    let r4 : Row p.algorithm (Row p.octets Ends) row.1.1.1.1 (algorithm_b ++ (signature_b ++ [])) 0 =
    in_front p.algorithm p.algorithm_are (Row p.octets Ends) row.1.1.1.1 algorithm_b (signature_b ++ []) 0 0 is_algorithm r5 in
    let r3 : Row p.attributes (Row p.algorithm (Row p.octets Ends)) row.1.1.1 (attributes_b ++ (algorithm_b ++ (signature_b ++ []))) 0 =
    in_front p.attributes p.attributes_are (Row p.algorithm (Row p.octets Ends)) row.1.1.1 attributes_b (algorithm_b ++ (signature_b ++ [])) 0 0 are_attributes r4 in
    let r2 : Row p.digest_algorithm (Row p.attributes (Row p.algorithm (Row p.octets Ends))) row.1.1 (digest_b ++ (attributes_b ++ (algorithm_b ++ (signature_b ++ [])))) 0 =
    in_front p.digest_algorithm p.digest_algorithm_are (Row p.attributes (Row p.algorithm (Row p.octets Ends))) row.1.1
    digest_b (attributes_b ++ (algorithm_b ++ (signature_b ++ []))) 0 0 is_digest r3 in
    let r1 : Row p.sid (Row p.digest_algorithm (Row p.attributes (Row p.algorithm (Row p.octets Ends)))) row.1 (sid_b ++ (digest_b ++ (attributes_b ++ (algorithm_b ++ (signature_b ++ []))))) 0 =
    in_front p.sid p.sid_are (Row p.digest_algorithm (Row p.attributes (Row p.algorithm (Row p.octets Ends)))) row.1
    sid_b (digest_b ++ (attributes_b ++ (algorithm_b ++ (signature_b ++ [])))) 0 0 is_sid r2 in
    let r0 =
    in_front p.version p.version_are (Row p.sid (Row p.digest_algorithm (Row p.attributes (Row p.algorithm (Row p.octets Ends))))) row
    version_b (sid_b ++ (digest_b ++ (attributes_b ++ (algorithm_b ++ (signature_b ++ []))))) 0 0 is_version r1 in
    (version_b ++ (sid_b ++ (digest_b ++ (attributes_b ++ (algorithm_b ++ (signature_b ++ []))))), r0, same)

data_count : (n : ℕ) → 0 + (0 + (0 + (n + 0))) ≡ n
data_count n = omega arith

info_count : (n : ℕ) → 0 + (n + 0) ≡ n
info_count n = omega arith

-- the fourth of five elements
fourth_at : (a b c d e bytes : List ℕ) → IsElement a → IsElement b → IsElement c → IsElement d → IsElement e
    → bytes ≡ element 48 (a ++ (b ++ (c ++ (d ++ (e ++ []))))) → LeadsTo bytes (3 ∷ []) d
fourth_at a b c d e bytes is_a is_b is_c is_d is_e is =
    let some : AreSome (e ++ []) = some_more e [] (e ++ []) is_e refl ([], refl) in
    let at0 : LeadsIn (d ++ (e ++ [])) 0 d = at_front d (e ++ []) (d ++ (e ++ [])) is_d refl some in
    let at1 : LeadsIn (c ++ (d ++ (e ++ []))) 1 d = behind_front c (d ++ (e ++ [])) (c ++ (d ++ (e ++ []))) is_c refl 0 d at0 in
    let at2 : LeadsIn (b ++ (c ++ (d ++ (e ++ [])))) 2 d = behind_front b (c ++ (d ++ (e ++ []))) (b ++ (c ++ (d ++ (e ++ [])))) is_b refl 1 d at1 in
    let at3 : LeadsIn (a ++ (b ++ (c ++ (d ++ (e ++ []))))) 3 d =
    behind_front a (b ++ (c ++ (d ++ (e ++ [])))) (a ++ (b ++ (c ++ (d ++ (e ++ []))))) is_a refl 2 d at2 in
    in_element 48 (a ++ (b ++ (c ++ (d ++ (e ++ []))))) bytes refl is 3 d at3

module _ (content_type content : List ℕ) (value : Certificate) (n : ℕ) (signer : SignerInfo) (given : List ℕ) where
  pub data_built : (version_b digest_b encapsulated_b signer_b bytes : List ℕ)
      → bytes ≡ assembled_data version_b digest_b encapsulated_b given signer_b
      → p.version 3 version_b 0 → p.digest_algorithm sha256_algorithm digest_b 0 → p.encapsulated (encapsulated_of content_type content) encapsulated_b 0
      → p.certificate value given n → signer_info.ghosts.spells signer signer_b 0
      → IsDataAround content_type content value n signer given bytes
  data_built version_b digest_b encapsulated_b signer_b bytes same is_version is_digest is_encapsulated is_certificate is_signer =
      let row = signed_row (data_with content_type content value signer) in
      let r4 : Row (AreSigners p) Ends row.1.1.1.1 (element 49 signer_b ++ []) 0 =
      in_front (AreSigners p) (signers_are p) Ends row.1.1.1.1 (element 49 signer_b) [] 0 0 (signer_b, is_signer, refl) (refl, refl) in
      let r3 : Row (AreCertificates p) (Row (AreSigners p) Ends) row.1.1.1 (element 160 given ++ (element 49 signer_b ++ [])) (n + 0) =
      in_front (AreCertificates p) (certificates_are p) (Row (AreSigners p) Ends) row.1.1.1 (element 160 given) (element 49 signer_b ++ []) n 0 (given, is_certificate, refl) r4 in
      let r2 : Row p.encapsulated (Row (AreCertificates p) (Row (AreSigners p) Ends)) row.1.1 (encapsulated_b ++ (element 160 given ++ (element 49 signer_b ++ []))) (0 + (n + 0)) =
      in_front p.encapsulated p.encapsulated_are (Row (AreCertificates p) (Row (AreSigners p) Ends)) row.1.1
      encapsulated_b (element 160 given ++ (element 49 signer_b ++ [])) 0 (n + 0) is_encapsulated r3 in
      let r1 : Row (AreDigests p) (Row p.encapsulated (Row (AreCertificates p) (Row (AreSigners p) Ends))) row.1
      (element 49 digest_b ++ (encapsulated_b ++ (element 160 given ++ (element 49 signer_b ++ [])))) (0 + (0 + (n + 0))) =
      in_front (AreDigests p) (digests_are p) (Row p.encapsulated (Row (AreCertificates p) (Row (AreSigners p) Ends))) row.1
      (element 49 digest_b) (encapsulated_b ++ (element 160 given ++ (element 49 signer_b ++ []))) 0 (0 + (n + 0)) (digest_b, is_digest, refl) r2 in
      let r0 =
      in_front p.version p.version_are (Row (AreDigests p) (Row p.encapsulated (Row (AreCertificates p) (Row (AreSigners p) Ends)))) row
      version_b (element 49 digest_b ++ (encapsulated_b ++ (element 160 given ++ (element 49 signer_b ++ [])))) 0 (0 + (0 + (n + 0))) is_version r1 in
      let whole : IsSignedData p (data_with content_type content value signer) bytes (0 + (0 + (0 + (n + 0)))) =
      (version_b ++ (element 49 digest_b ++ (encapsulated_b ++ (element 160 given ++ (element 49 signer_b ++ [])))), r0, same) in
      record {
        spelled = subst (λ (k : ℕ). IsSignedData p (data_with content_type content value signer) bytes k) (data_count n) whole;
        leads =
            go_on bytes (element 160 given) given (3 ∷ []) (0 ∷ [])
            (fourth_at version_b (element 49 digest_b) encapsulated_b (element 160 given) (element 49 signer_b) bytes (p.version_are 3 version_b 0 is_version) (49, digest_b, refl, refl)
            (p.encapsulated_are (encapsulated_of content_type content) encapsulated_b 0 is_encapsulated) (160, given, refl, refl) (49, signer_b, refl, refl) same)
            (held_at 160 given (element 160 given) refl (p.certificate_are value given n is_certificate) refl);
      }

  pub info_built : (oid_b data_b bytes : List ℕ) → bytes ≡ assembled oid_b data_b → p.oid (record { 0 = oids.signed_data }) oid_b 0
      → IsDataAround content_type content value n signer given data_b → IsInfoAround content_type content value n signer given bytes
  info_built oid_b data_b bytes same is_oid around =
      let row = content_row (info_with content_type content value signer) in
      let r1 : Row (IsTagged p) Ends row.1 (element 160 data_b ++ []) (n + 0) =
      in_front (IsTagged p) (tagged_are p) Ends row.1 (element 160 data_b) [] n 0 (data_b, around.spelled, refl) (refl, refl) in
      let r0 = in_front p.oid p.oid_are (Row (IsTagged p) Ends) row oid_b (element 160 data_b ++ []) 0 (n + 0) is_oid r1 in
      let whole : content_info.ghosts.spells (info_with content_type content value signer) bytes (0 + (n + 0)) =
      (oid_b ++ (element 160 data_b ++ []), r0, same) in
      let tagged : LeadsTo bytes (1 ∷ []) (element 160 data_b) =
      second_at 48 oid_b (element 160 data_b) bytes refl (p.oid_are (record { 0 = oids.signed_data }) oid_b 0 is_oid) (160, data_b, refl, refl) same in
      let inside : LeadsTo (element 160 data_b) (0 ∷ []) data_b =
      held_at 160 data_b (element 160 data_b) refl (signed_are p (data_with content_type content value signer) data_b n around.spelled) refl in
      let outer : LeadsTo bytes (1 ∷ 0 ∷ []) data_b = go_on bytes (element 160 data_b) data_b (1 ∷ []) (0 ∷ []) tagged inside in
      record {
        spelled = subst (λ (k : ℕ). content_info.ghosts.spells (info_with content_type content value signer) bytes k) (info_count n) whole;
        certificate_at = part_there bytes given certificate_place (go_on bytes data_b given (1 ∷ 0 ∷ []) (3 ∷ 0 ∷ []) outer around.leads);
      }
