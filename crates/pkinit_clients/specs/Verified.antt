-- What a client verifies of a reply by certificate, as parts of its bytes (RFC 4120, section 5.4.2; RFC 4556, section 3.2.3.1).
use Rattle.std.specs.Prelude.{ℕ, List, [], ◌∷◌, ◌++◌}
use Rattle.picky_asn1_der.specs.Parts.{IsPart}
use Rattle.picky_asn1.specs.Bytes.{Bytes}
use Rattle.cms_signed_data.specs.Parts.{attributes_place, certificate_place}
use Rattle.cms_signed_data.specs.SignedParts.{SignedParts}
use Rattle.pkinit_validation.specs.Certificates.{IsCertificate, ReadRecord}

-- the path to the signed data of an AS-REP whose PA-PK-AS-REP has this number among the padata, which are the SEQUENCE's element number 2
abbrev pub signed_place : ℕ → List ℕ
signed_place entry = 0 ∷ 2 ∷ 0 ∷ entry ∷ 1 ∷ 0 ∷ 0 ∷ 0 ∷ 0 ∷ 0 ∷ []

-- the signed data are in the reply's own bytes; and in them its certificate, what the certificate's issuer signed, and the signed
-- attributes
pub record IsVerifiedPart (bytes signed : Bytes) (content : SignedParts) : Type 0 where
  pub entry : ℕ
  pub signed_data : IsPart bytes (signed_place entry) signed
  pub attributes : IsPart bytes (signed_place entry ++ attributes_place) content.signed_attributes
  pub certificate : IsPart bytes (signed_place entry ++ certificate_place) content.certificate
  pub certified : (read : ReadRecord) → IsCertificate content.certificate read → IsPart bytes (signed_place entry ++ (certificate_place ++ 0 ∷ [])) read.signed
