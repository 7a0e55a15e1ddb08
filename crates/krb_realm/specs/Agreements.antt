-- What client and realm have to have in common to agree on a secret by certificate, and what they agree on (RFC 4556, section 3.2).
use Rattle.std.specs.Prelude.{◌≡◌, ℤ, true, None, Some, Result, Ok}
use Rattle.asn1_leaves.specs.declared.date.GeneralizedTime.{GeneralizedTime}
use Rattle.picky_asn1_der.specs.Raw.{Raw}
use Rattle.picky_asn1.specs.BitString.{Bits}
use Rattle.picky_asn1.specs.Bytes.{Bytes}
use Rattle.krb_time.specs.SecondOf.{IsSecondOf}
use Rattle.krb_time.specs.Units.{Micros}
use Rattle.krb_messages.specs.Refusals.{Code}
use Rattle.krb_messages.specs.declared.messages.kdc_req_body.KdcReqBody.{KdcReqBody}
use Rattle.krb_kdc_exchanges.specs.PkinitCalls.{AgreedRecord}
use Rattle.x509_certificates.specs.declared.certificate.Certificate.{Certificate}
use Rattle.x509_keys.specs.KeyFunctions.{KeysRecord}
use Rattle.x509_keys.specs.KeyFunctions.TheirValue.{ValueBits, WholeValue}
use Rattle.x509_keys.specs.declared.functions.Signed.{Signed}
use Rattle.cms_signed_data.specs.Written.{IsWritten, signed_bytes}
use Rattle.pkinit_validation.specs.Accepted.{accepted}
use Rattle.pkinit_validation.specs.Certificates.{IsCertificate, ReadRecord}
use Rattle.pkinit_validation.specs.Expected.{ExpectedRecord}
use Rattle.pkinit_validation.specs.PublicKeys.{IsPublicKey}
use Rattle.pkinit_validation.specs.Replies.{dh_key_data, dh_reply_bytes, dh_reply_of, key_info_bytes, key_info_of}
use Rattle.pkinit_validation.specs.declared.public_key.AgreementPublicKey.{AgreementPublicKey}
use Rattle.pkinit_clients.specs.AuthPacks.{auth_data}
use Rattle.pkinit_clients.specs.Requests.{pack_bytes}

-- the bytes are a certificate, which is accepted as that of the expected principal (RFC 5280, section 6.1.3)
pub record IsAcceptedFor (keys : KeysRecord) (expected : ExpectedRecord) (certificate : Bytes) (read : ReadRecord) : Type 0 where
  pub reads : IsCertificate certificate read
  pub accepts : (accepted keys expected read).gives (Ok tt)

-- what a client signs: the signed attributes over its AuthPack, for a request with this body at the moment, with this public value (RFC
-- 4556, section 3.2.1)
abbrev pub IsPackText : KdcReqBody → Micros → Raw → Bytes → Type 0
IsPackText body moment value text =
    (second : GeneralizedTime) × IsSecondOf moment second × (text ≡ signed_bytes auth_data (pack_bytes body moment second value))

-- what a realm signs: the signed attributes over KDCDHKeyInfo, with this public value and this nonce (RFC 4556, section 3.2.3.1)
abbrev pub IsKeyInfoText : Bits → ℤ → Bytes → Type 0
IsKeyInfoText value nonce text = text ≡ signed_bytes dh_key_data (key_info_bytes (key_info_of value nonce))

-- the party signs each such text, and the other one verifies it under the holder's key
abbrev pub Signs : KeysRecord → KeysRecord → Certificate → (Bytes → Type 0) → Type 0
Signs own other holder IsText =
    (text : Bytes) → IsText text → (made : Signed) × (own.sign text ≡ Some made)
    × (other.verifies holder.tbs_certificate.subject_public_key_info made.algorithm text made.signature ≡ true)

-- the other party accepts the certificate as that of the expected principal, and its holder signs such texts for it
pub record IsTrusted (own other : KeysRecord) (expected : ExpectedRecord) (certificate : Bytes) (IsText : Bytes → Type 0) : Type 0 where
  pub read : ReadRecord
  pub accepts : IsAcceptedFor other expected certificate read
  pub signs : Signs own other read.certificate IsText

-- each party has a public key, by its random bytes, and both come to one secret by the other's. The client sends the whole key,
-- and the realm its bits alone (RFC 4556, sections 3.2.1 and 3.2.3.1)
pub record AreAgreeing (client_keys realm_keys : KeysRecord) (client_words realm_words : Bytes) : Type 0 where
  pub client_element : Raw
  pub client_value : client_keys.public_value client_words ≡ Some client_element
  pub client_key : AgreementPublicKey
  pub is_client_key : IsPublicKey client_element client_key
  pub realm_element : Raw
  pub realm_value : realm_keys.public_value realm_words ≡ Some realm_element
  pub realm_key : AgreementPublicKey
  pub is_realm_key : IsPublicKey realm_element realm_key
  pub secret : Bytes
  pub realm_agrees : realm_keys.agree (WholeValue client_element) realm_words ≡ Some secret
  pub client_agrees : client_keys.agree (ValueBits realm_key.subject_public_key) client_words ≡ Some secret

-- PA-PK-AS-REP: the realm signed this public value and this nonce, around its certificate
pub record IsAgreedReply (realm_keys : KeysRecord) (certificate : Bytes) (value : Bits) (nonce : ℤ) (reply : Bytes) : Type 0 where
  pub signed : Bytes
  pub is_signed : IsWritten realm_keys.sign dh_key_data (key_info_bytes (key_info_of value nonce)) certificate signed
  pub encoding : reply ≡ dh_reply_bytes (dh_reply_of signed)

-- the realm comes to the secret, and replies so
pub record IsGrantedAgreement (realm_keys : KeysRecord) (certificate : Bytes) (value : Bits) (nonce : ℤ) (secret : Bytes) (result : Result AgreedRecord Code) : Type 0 where
  pub agreed : AgreedRecord
  pub is_agreed : result ≡ Ok agreed
  pub same_secret : agreed.secret ≡ secret
  pub no_kdf : agreed.kdf ≡ None
  pub is_reply : IsAgreedReply realm_keys certificate value nonce agreed.reply
