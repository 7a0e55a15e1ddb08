-- Trust anchors (RFC 5280, section 6.1.1).
use Rattle.std.specs.Prelude.{◌≡◌, ◌⊎◌, ◌↔◌, ℕ, List, Result, Ok, Err}
use Rattle.picky_asn1.specs.Bytes.{Bytes}
use Rattle.x509_keys.specs.declared.subject_public_key_info.SubjectPublicKeyInfo.{SubjectPublicKeyInfo}
use Rattle.x509_certificates.specs.declared.certificate.Certificate.{Certificate}
use Rattle.x509_spelling.specs.declared.fault.X509Fault.{X509Fault}
use Rattle.x509_spelling.specs.declared.fault.X509Fault.TheVariants.{Memory}
use Rattle.pkinit_validation.specs.Certificates.{name_bytes}

-- the encoding of an issuer's name, and its public key
pub record AnchorRecord : Type 0 where
  pub subject : Bytes
  pub key : SubjectPublicKeyInfo

-- the certificate's subject as an anchor
abbrev pub anchor_of : Certificate → AnchorRecord
anchor_of certificate = record {
  subject = name_bytes certificate.tbs_certificate.subject;
  key = certificate.tbs_certificate.subject_public_key_info;
}

-- what is made of the value of which the bytes are a spelling, and of no other; or memory ran out
abbrev pub ReadsMade : {T A : Type 0} → (T → List ℕ → ℕ → Type 0) → (T → A) → Bytes → Result A X509Fault → Type 0
ReadsMade {T} {A} spells make bytes answer =
    (answer ≡ Err Memory) ⊎ ((made : A) → (answer ≡ Ok made) ↔ ((value : T) × (n : ℕ) × spells value bytes n × (made ≡ make value)))
