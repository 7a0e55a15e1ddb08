-- What holds of signed content: the parts are those of the value, and it is one.
use Rattle.std.proofs.Common.{◌≡◌, ℕ, List, Result, Ok, Err, refl, ◌∙◌, subst, inl, inr}
use Rattle.std.specs.Prelude.{◌⊎◌}
use Rattle.asn1_der.specs.Length.{element}
use Rattle.asn1_der.specs.Tree.{der}
use Rattle.picky_asn1_der.specs.Parts.{IsPart}
use Rattle.picky_asn1_der.specs.PartLaws.{part-one}
use Rattle.picky_asn1_der.specs.PathLaws.{part_there}
use Rattle.x509_certificates.specs.contracts.certificate.CertificateSpelled.TheImpl as certificate
use Rattle.cms_signed_data.specs.contracts.content_info.ContentInfoSpelled.TheImpl as content_info
use Rattle.cms_signed_data.specs.Parts.{content_place, certificate_place, attributes_place, digest_place, signature_place, parts_held}
use Rattle.cms_signed_data.specs.declared.fault.SignedFault.{SignedFault}
use Rattle.cms_signed_data.specs.declared.fault.SignedFault.TheVariants.{Memory}
use Rattle.cms_signed_data.specs.SignedParts.{SignedParts, content_of, digest_of, signature_of, attributes_tree}
use Rattle.cms_signed_data.specs.SignedContents.{IsSignedContent, Reads}
use Rattle.asn1_der.specs.Octets.{octet_string_octet}

module _ (bytes : List ℕ) (parts : SignedParts) (is : IsSignedContent bytes parts) where
  -- the certificate's bytes are a spelling of the value's certificate
  pub certificate_spelled : (n : ℕ) × certificate.ghosts.spells parts.info.content.0.certificates.0 parts.certificate n
  certificate_spelled =
      let held = (parts_held parts.info bytes is.form.0.0 is.form.0.1).certificate_at in
      let same : held.inner ≡ parts.certificate =
      part-one certificate_place bytes held.inner parts.certificate (part_there bytes held.inner certificate_place held.leads) is.certificate_at in
      (held.count, subst (λ (l : List ℕ). certificate.ghosts.spells parts.info.content.0.certificates.0 l held.count) same held.is)

  -- the signed attributes' bytes are their DER
  pub attributes_der : parts.signed_attributes ≡ der (attributes_tree parts.info.content.0.signer_infos.0.signed_attributes)
  attributes_der =
      let held = (parts_held parts.info bytes is.form.0.0 is.form.0.1).attributes_at in
      part-one attributes_place bytes parts.signed_attributes held.inner is.attributes_at (part_there bytes held.inner attributes_place held.leads) ∙ held.is.0.1

  -- the octets of content, digest and signature are in the bytes
  pub content_there : IsPart bytes content_place (element octet_string_octet (content_of parts.info))
  content_there = (parts_held parts.info bytes is.form.0.0 is.form.0.1).content_at

  pub digest_there : IsPart bytes digest_place (element octet_string_octet (digest_of parts.info))
  digest_there = (parts_held parts.info bytes is.form.0.0 is.form.0.1).digest_at

  pub signature_there : IsPart bytes signature_place (element octet_string_octet (signature_of parts.info))
  signature_there = (parts_held parts.info bytes is.form.0.0 is.form.0.1).signature_at

-- bytes are one signed content
pub one_content : (bytes : List ℕ) (parts other : SignedParts) → IsSignedContent bytes parts → IsSignedContent bytes other → parts ≡ other
one_content bytes parts other is also =
    let infos : parts.info ≡ other.info =
    (content_info.ghosts.laws.one parts.info other.info bytes is.form.0.0 also.form.0.0 is.form.0.1 also.form.0.1).0 in
    let certificates : parts.certificate ≡ other.certificate = part-one certificate_place bytes parts.certificate other.certificate is.certificate_at also.certificate_at in
    let attributes : parts.signed_attributes ≡ other.signed_attributes =
    part-one attributes_place bytes parts.signed_attributes other.signed_attributes is.attributes_at also.attributes_at in
    λ i. record { info = infos i; certificate = certificates i; signed_attributes = attributes i }

-- what was answered is so
pub read_is : {T : Type 0} (is : T → Type 0) (value : T) → Reads is (Ok value) → is value
read_is is value (inl memory) = absurd (cc (memory))
read_is is value (inr reads) = (reads value).0 refl

-- what is so is answered, or memory ran out
pub is_read : {T : Type 0} (is : T → Type 0) (answer : Result T SignedFault) (value : T) → Reads is answer → is value → (answer ≡ Err Memory) ⊎ (answer ≡ Ok value)
is_read is answer value (inl memory) holds = inl memory
is_read is answer value (inr reads) holds = inr ((reads value).1 holds)
