-- Signatures of a run: what a realm verifies of a request by certificate, and what clients signed (RFC 4556, section 3.2.1; RFC 5652, section
-- 5.4). No one else made one.
use Rattle.std.specs.Prelude.{◌≡◌, true, List, Some, Ok}
use Rattle.sha2.specs.Sha256.{sha256}
use Rattle.asn1_leaves.specs.declared.date.GeneralizedTime.{GeneralizedTime}
use Rattle.picky_asn1.specs.Bytes.{Bytes}
use Rattle.krb_time.specs.Units.{Micros}
use Rattle.krb_constants.specs.declared.padata_types.TheConstants.{PA_PK_AS_REQ}
use Rattle.krb_crypto.specs.declared.suite.CipherSuite.{CipherSuite}
use Rattle.krb_messages.specs.Messages.{IsAsReq}
use Rattle.krb_messages.specs.Padata.{first_of, padata_in}
use Rattle.krb_messages.specs.RandomBytes.{Random}
use Rattle.krb_messages.specs.declared.messages.kdc_req.KdcReq.{KdcReq}
use Rattle.krb_realm_accounts.specs.Names.{AreComponents}
use Rattle.krb_client.specs.AsRequest.{AsksAsOfSuites, as_body_of_suites}
use Rattle.krb_client.specs.Client.{ClientRecord}
use Rattle.krb_authenticity.specs.Among.{IsAmong}
use Rattle.krb_authenticity.specs.Parties.{ExchangeRecord, IsClient}
use Rattle.x509_algorithms.specs.declared.algorithm_identifier.AlgorithmIdentifier.{AlgorithmIdentifier}
use Rattle.x509_keys.specs.KeyFunctions.{KeysRecord}
use Rattle.x509_keys.specs.declared.subject_public_key_info.SubjectPublicKeyInfo.{SubjectPublicKeyInfo}
use Rattle.cms_signed_data.specs.SignedContents.{IsSignedContent}
use Rattle.cms_signed_data.specs.SignedParts.{SignedParts, content_of}
use Rattle.cms_signed_data.specs.Written.{signed_bytes}
use Rattle.pkinit_messages.specs.declared.pa_pk_as_req.PaPkAsReq.{PaPkAsReq}
use Rattle.pkinit_validation.specs.Accepted.{accepted}
use Rattle.pkinit_validation.specs.Anchors.{AnchorRecord}
use Rattle.pkinit_validation.specs.AuthPacks.{IsPaPkAsReq}
use Rattle.pkinit_validation.specs.Certificates.{IsCertificate, ReadRecord}
use Rattle.pkinit_validation.specs.Expected.{ExpectedRecord}
use Rattle.pkinit_validation.specs.SignedContents.{judged_in}
use Rattle.pkinit_clients.specs.AuthPacks.{auth_data}
use Rattle.pkinit_clients.specs.Means.{by_certificate}
use Rattle.pkinit_clients.specs.Requests.{pack_bytes}

-- a client's request for a first ticket by its certificate; it lists these suites
pub record CertifiedRequest : Type 0 where
  pub client : ClientRecord
  pub suites : List CipherSuite
  pub certificate : Bytes
  pub anchor : AnchorRecord
  pub keys : KeysRecord
  pub service : List Bytes
  pub till : GeneralizedTime
  pub moment : Micros
  pub words : Random
  pub bytes : Bytes

-- what a client sent is its request
abbrev pub IsCertifiedSent : CertifiedRequest → Type 0
IsCertifiedSent request =
    AsksAsOfSuites request.client request.suites (by_certificate request.certificate request.anchor request.keys) request.service request.till request.moment request.words request.bytes

-- the AuthPack that it signed
abbrev pub pack_of : (request : CertifiedRequest) → IsCertifiedSent request → Bytes
pack_of request sent =
    pack_bytes (as_body_of_suites request.client request.suites request.service request.till request.words) request.moment sent.shown.is_request.second sent.shown.is_request.value

-- a signature, the public key that verifies it, and the bytes that it covers
pub record SignatureRecord : Type 0 where
  pub key : SubjectPublicKeyInfo
  pub algorithm : AlgorithmIdentifier
  pub covered : Bytes
  pub signature : Bytes

-- the public key of a certificate
abbrev pub key_of : ReadRecord → SubjectPublicKeyInfo
key_of read = read.certificate.tbs_certificate.subject_public_key_info

-- the signature of signed content, under this key
abbrev pub signature_in : SubjectPublicKeyInfo → SignedParts → SignatureRecord
signature_in key content =
    record { key = key; algorithm = (judged_in content).algorithm; covered = (judged_in content).covered; signature = (judged_in content).signature }

-- an exchange's request by certificate has this signed content
pub record IsCertifiedRead (exchange : ExchangeRecord) (content : SignedParts) : Type 0 where
  pub asked : KdcReq
  pub read : IsAsReq exchange.request asked
  pub padata : Bytes
  pub first : first_of PA_PK_AS_REQ (padata_in asked) ≡ Some padata
  pub request : PaPkAsReq
  pub is_request : IsPaPkAsReq padata request
  pub signed : IsSignedContent request.signed_auth_pack.0 content

-- the realm verifies this signature of it, under the key of the certificate in it
pub record IsVerified (keys : KeysRecord) (exchange : ExchangeRecord) (signature : SignatureRecord) : Type 0 where
  pub content : SignedParts
  pub is_read : IsCertifiedRead exchange content
  pub certificate : ReadRecord
  pub is_certificate : IsCertificate content.certificate certificate
  pub verifies : keys.verifies (key_of certificate) (judged_in content).algorithm (judged_in content).covered (judged_in content).signature ≡ true
  pub is : signature ≡ signature_in (key_of certificate) content

-- the client signed these bytes, by the key of its certificate
pub record IsSignedBy (request : CertifiedRequest) (signature : SignatureRecord) : Type 0 where
  pub sent : IsCertifiedSent request
  pub key : sent.shown.is_request.is_signed.value.tbs_certificate.subject_public_key_info ≡ signature.key
  pub covered : signature.covered ≡ signed_bytes auth_data (pack_of request sent)

-- what the realm verifies of an exchange's request under one of these public keys, a client signed in a request that it sent, and no one else
abbrev pub AreSignaturesMade : KeysRecord → List SubjectPublicKeyInfo → List CertifiedRequest → ExchangeRecord → Type 0
AreSignaturesMade keys holders certified exchange =
    (signature : SignatureRecord) → IsVerified keys exchange signature → IsAmong signature.key holders
    → (request : CertifiedRequest) × IsAmong request certified × IsSignedBy request signature

-- a client asked by its certificate: its AuthPack has the digest of the one that the realm read
pub record IsAskedByCertificate (certified : List CertifiedRequest) (content : SignedParts) : Type 0 where
  pub request : CertifiedRequest
  pub among : IsAmong request certified
  pub sent : IsCertifiedSent request
  pub same_digest : sha256 (content_of content.info) ≡ sha256 (pack_of request sent)

-- the realm accepted a certificate of the expected principal, and if its key is one of these, a client that holds it asked
pub record IsByCertificate (keys : KeysRecord) (expected : ExpectedRecord) (holders : List SubjectPublicKeyInfo) (certified : List CertifiedRequest) (exchange : ExchangeRecord) : Type 0 where
  pub content : SignedParts
  pub is_read : IsCertifiedRead exchange content
  pub certificate : ReadRecord
  pub is_certificate : IsCertificate content.certificate certificate
  pub accepts : (accepted keys expected certificate).gives (Ok tt)
  pub asked : IsAmong (key_of certificate) holders → IsAskedByCertificate certified content

-- an exchange's request came to the realm as a client sent it that asked by its certificate
pub record IsCertifiedHonest (certified : List CertifiedRequest) (exchange : ExchangeRecord) : Type 0 where
  pub request : CertifiedRequest
  pub among : IsAmong request certified
  pub is_sent : IsCertifiedSent request
  pub named : IsClient request.client
  pub service_named : AreComponents request.service
  pub bytes : exchange.request ≡ request.bytes
