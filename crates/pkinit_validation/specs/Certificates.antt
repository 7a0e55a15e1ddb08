-- Certificates with what their issuers signed.
use Rattle.std.specs.Prelude.{◌≡◌, ◌⊎◌, ℕ, [], ◌∷◌, List, Option, None, Some, Result, Err}
use Rattle.std.specs.Borrow.{Bor}
use Rattle.picky_asn1.specs.Bytes.{Bytes}
use Rattle.asn1_der.specs.Tree.{der}
use Rattle.asn1_der.specs.Tagged.{tagged_tree}
use Rattle.picky_asn1_der.specs.Parts.{IsPart}
use Rattle.picky_asn1_der.specs.PartLaws.{part-one}
use Rattle.decision_tables.specs.One.{IsSole}
use Rattle.x509_fields.specs.declared.attribute_type_and_value.AttributeTypeAndValue.{AttributeTypeAndValue}
use Rattle.x509_fields.specs.contracts.name.NameTagged.TheImpl as name_impl
use Rattle.x509_certificates.specs.declared.certificate.Certificate.{Certificate}
use Rattle.x509_certificates.specs.contracts.certificate.CertificateSpelled.TheImpl as certificate_impl
use Rattle.asn1_der.specs.Octets.{sequence_octet}

-- a certificate, and the bytes that its issuer signed
pub record ReadRecord : Type 0 where
  pub certificate : Certificate
  pub signed : Bytes

-- the bytes are a spelling of the certificate, with any count of deviations, and what its issuer signed is their first part
pub record IsCertificate (bytes : Bytes) (read : ReadRecord) : Type 0 where
  pub count : ℕ
  pub spelled : certificate_impl.ghosts.spells read.certificate bytes count
  pub part : IsPart bytes (0 ∷ []) read.signed

pub sole_certificate : (bytes : Bytes) → IsSole (IsCertificate bytes)
sole_certificate bytes v w p q = λ i. record {
  certificate = (certificate_impl.ghosts.laws.one v.certificate w.certificate bytes p.count q.count p.spelled q.spelled).0 i;
  signed = part-one (0 ∷ []) bytes v.signed w.signed p.part q.part i;
}

-- a value of which the bytes are a spelling, and the part of them that is signed; or there is none
abbrev pub IsFoundSigned : {T : Type 0} → (T → List ℕ → ℕ → Type 0) → Bytes → Option (T × Bor Bytes) → Type 0
IsFoundSigned {T} spells bytes None = (value : T) (n : ℕ) → spells value bytes n → ⊥
IsFoundSigned spells bytes (Some read) = ((n : ℕ) × spells read.0 bytes n) × IsPart bytes (0 ∷ []) read.1.now

-- what the value is judged by gives this answer; or there is no value, and the answer is this error
abbrev pub GivesOf : {T A E : Type 0} → (T → List ℕ → ℕ → Type 0) → Bytes → E → (T → Bytes → Result A E → Type 0) → Result A E → Type 0
GivesOf {T} spells bytes error judged_by answer =
    ((value : T) × (part : Bytes) × ((n : ℕ) × spells value bytes n) × IsPart bytes (0 ∷ []) part × judged_by value part answer)
    ⊎ (((value : T) (n : ℕ) → spells value bytes n → ⊥) × (answer ≡ Err error))

-- the DER of a Name
unfoldable pub name_bytes : List (List AttributeTypeAndValue) → Bytes
name_bytes name = der (tagged_tree sequence_octet name_impl.ghosts.row_tree name_impl.ghosts.row_of name)
