-- Signed data around a certificate's bytes: no more deviates in the whole than in the certificate, which is there unchanged.
use Rattle.std.specs.Prelude.{ℕ, List, [], ◌∷◌}
use Rattle.picky_asn1_der.specs.Parts.{IsPart}
use Rattle.picky_asn1_der.specs.PathLaws.{LeadsTo}
use Rattle.x509_certificates.specs.declared.certificate.Certificate.{Certificate}
use Rattle.cms_signed_data.specs.contracts.content_info.ContentInfoSpelled.TheImpl as content_info
use Rattle.cms_signed_data.specs.contracts.signed_data.SignedDataSpelled.TheImpl as signed_data
use Rattle.cms_signed_data.specs.declared.signer_info.SignerInfo.{SignerInfo}
use Rattle.cms_signed_data.specs.Parts.{certificate_place}
use Rattle.cms_signed_data.specs.Written.{data_with, info_with}

-- the bytes spell a SignedData with this content, certificate and signer and `n` deviations, and the given bytes are its certificate
pub record IsDataAround (content_type content : List ℕ) (value : Certificate) (n : ℕ) (signer : SignerInfo) (given bytes : List ℕ) : Type 0 where
  pub spelled : signed_data.ghosts.spells (data_with content_type content value signer) bytes n
  pub leads : LeadsTo bytes (3 ∷ 0 ∷ []) given

-- the bytes spell a ContentInfo with this content, certificate and signer and `n` deviations, and the given bytes are its certificate
pub record IsInfoAround (content_type content : List ℕ) (value : Certificate) (n : ℕ) (signer : SignerInfo) (given bytes : List ℕ) : Type 0 where
  pub spelled : content_info.ghosts.spells (info_with content_type content value signer) bytes n
  pub certificate_at : IsPart bytes certificate_place given
