-- What is judged of signed content (RFC 5652, section 5).
use Rattle.std.specs.Prelude.{ℤ}
use Rattle.picky_asn1.specs.Bytes.{Bytes}
use Rattle.x509_algorithms.specs.declared.algorithm_identifier.AlgorithmIdentifier.{AlgorithmIdentifier}
use Rattle.x509_certificates.specs.Certificates.{NameSets}
use Rattle.pkinit_validation.specs.declared.judged.JudgedContent as held

-- The content and the signer's certificate; issuer and serialNumber as sid names them; the digest that is signed. Then the bytes that
-- the signature covers, and the signature.
pub record JudgedRecord : Type 0 where
  pub content : Bytes
  pub certificate : Bytes
  pub issuer : NameSets
  pub serial : ℤ
  pub digest : Bytes
  pub covered : Bytes
  pub algorithm : AlgorithmIdentifier
  pub signature : Bytes

-- The parts of signed content that show who signed it (RFC 5652, section 5).
abbrev pub judged_of : held.JudgedContent → JudgedRecord
judged_of judged = record {
  content = judged.content.now;
  certificate = judged.certificate.now;
  issuer = judged.issuer.now;
  serial = judged.serial.now;
  digest = judged.digest.now;
  covered = judged.covered.now;
  algorithm = judged.algorithm.now;
  signature = judged.signature.now;
}
