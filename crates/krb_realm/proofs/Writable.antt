-- Who signs writes something: there is signed content around each certificate.
use Rattle.std.proofs.Common.{◌≡◌, ℕ, List, Option, Some, refl, subst}
use Rattle.asn1_der.specs.Tree.{Tree, IsWhole}
use Rattle.asn1_leaves.specs.ObjectIdentifier.{IsObjectIdentifier}
use Rattle.x509_algorithms.specs.contracts.algorithm_identifier.AlgorithmIdentifierSpelled.TheImpl.Laws.{written_is-law as algorithm_written}
use Rattle.x509_algorithms.specs.declared.algorithm_identifier.AlgorithmIdentifier.{AlgorithmIdentifier}
use Rattle.x509_certificates.specs.contracts.certificate.CertificateSpelled.TheImpl as certificate
use Rattle.x509_certificates.specs.declared.certificate.Certificate.{Certificate}
use Rattle.x509_oids.specs.Identifiers as oids
use Rattle.x509_fields.specs.contracts.raw_algorithm_identifier.RawAlgorithmIdentifierSpelled.TheImpl as raw_spelled
use Rattle.x509_keys.specs.Encodings.{HasEncoding}
use Rattle.x509_keys.specs.declared.functions.Signed.{Signed}
use Rattle.cms_signed_data.specs.PartSpellings.{PartSpellings}
use Rattle.cms_signed_data.specs.contracts.form.ContentInfoOfForm.TheImpl as of_form
use Rattle.cms_signed_data.specs.contracts.signer_info.SignerInfoSpelled.TheImpl as signer_info
use Rattle.cms_signed_data.specs.declared.signer_info.SignerInfo.{SignerInfo}
use Rattle.cms_signed_data.proofs.AroundLemmas.{data_built, info_built}
use Rattle.cms_signed_data.proofs.WholeLemmas.{attributes_whole, id_whole, oid_whole}
use Rattle.cms_signed_data.specs.Written.{IsWritten, attributes_of, encapsulated_of, id_of, sha256_algorithm, signed_bytes, signer_of}

abbrev p : PartSpellings
p = of_form.ghosts.spellings

-- parts that are always there
version_spelled : (bytes : List ℕ) × p.version 3 bytes 0
version_spelled = (_, ((tt, refl), refl))

digest_spelled : (bytes : List ℕ) × p.digest_algorithm sha256_algorithm bytes 0
digest_spelled = (_, raw_spelled.ghosts.laws.strict sha256_algorithm (tt, (tt, tt)))

oid_spelled : (bytes : List ℕ) × p.oid (record { 0 = oids.signed_data }) bytes 0
oid_spelled = (_, ((tt, refl), refl))

encapsulated_spelled : (content_type content : List ℕ) → IsObjectIdentifier content_type → (bytes : List ℕ) × p.encapsulated (encapsulated_of content_type content) bytes 0
encapsulated_spelled content_type content valid = (_, (((oid_whole content_type valid, ((tt, tt), tt)), refl), refl))

signer_spelled : (content_type content given : List ℕ) (value : Certificate) (n : ℕ) (signed : Signed) → IsObjectIdentifier content_type
    → certificate.ghosts.spells value given n → HasEncoding signed.algorithm
    → (bytes : List ℕ) × signer_info.ghosts.spells (signer_of (id_of value) (attributes_of content_type content) signed) bytes 0
signer_spelled content_type content given value n signed valid is encoded =
    let algorithm = subst (λ (t : AlgorithmIdentifier → Tree). IsWhole (t signed.algorithm)) algorithm_written encoded in (
      _,
      signer_info.ghosts.laws.strict (signer_of (id_of value) (attributes_of content_type content) signed)
          (tt, (id_whole value given n is, ((tt, (tt, tt)), (attributes_whole content_type content valid, (algorithm, (tt, tt)))))),
    )

-- signed content of this type and content, around the certificate
pub some_written : (sign : List ℕ → Option Signed) (content_type content given : List ℕ) (value : Certificate) (n : ℕ) (signed : Signed) → IsObjectIdentifier content_type
    → certificate.ghosts.spells value given n → sign (signed_bytes content_type content) ≡ Some signed → HasEncoding signed.algorithm
    → (bytes : List ℕ) × IsWritten sign content_type content given bytes
some_written sign content_type content given value n signed valid is signs encoded =
    let signer : SignerInfo = signer_of (id_of value) (attributes_of content_type content) signed in
    let signer_b = signer_spelled content_type content given value n signed valid is encoded in
    let encapsulated_b = encapsulated_spelled content_type content valid in
    let around =
    data_built content_type content value n signer given version_spelled.0 digest_spelled.0 encapsulated_b.0 signer_b.0 _ refl version_spelled.1 digest_spelled.1 encapsulated_b.1 is signer_b.1 in
    let whole = info_built content_type content value n signer given oid_spelled.0 _ _ refl oid_spelled.1 around in (
      _,
      record {
        value = value;
        count = n;
        signed = signed;
        certificate_spelled = is;
        signs = signs;
        spelled = whole.spelled;
        certificate_at = whole.certificate_at;
      },
    )
