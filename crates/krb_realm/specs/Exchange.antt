-- Which AS exchanges by certificate are honest (RFC 4556, section 3.2), and what such an exchange comes to.
use Rattle.std.specs.Prelude.{◌≡◌, false, Ok, Some, pos}
use Rattle.picky_asn1_der.specs.Raw.{Raw}
use Rattle.picky_asn1.specs.Bytes.{Bytes}
use Rattle.krb_time.specs.Skew.{is_far}
use Rattle.krb_messages.specs.RandomBytes.{AreEnoughForReply}
use Rattle.krb_kdc_exchanges.specs.PkinitCalls.{AgreedRecord, PkinitCallRecord}
use Rattle.x509_keys.specs.KeyFunctions.{KeysRecord}
use Rattle.pkinit_validation.specs.PkinitTable.{pkinit_table}
use Rattle.pkinit_validation.specs.PublicKeys.{IsPublicKey}
use Rattle.pkinit_validation.specs.Trust.{TrustRecord}
use Rattle.pkinit_validation.specs.declared.public_key.AgreementPublicKey.{AgreementPublicKey}
use Rattle.pkinit_clients.specs.Asked.{PkinitAskedRecord, expected_realm}
use Rattle.pkinit_clients.specs.Replies.{secret_of}
use Rattle.krb_realm.specs.Agreements.{IsKeyInfoText, IsTrusted}
use Rattle.krb_realm.specs.Honest.{IsHonestAgreement}

-- An exchange by certificate is honest if both agree on a secret by their random bytes, and the realm has an anchor and a certificate.
-- Each accepts the other's certificate too, and verifies what its holder signs.
pub record IsHonestExchange (client_keys : KeysRecord) (certificate : Bytes) (trust : TrustRecord) (realm_keys : KeysRecord) (call : PkinitCallRecord) (asked : PkinitAskedRecord) : Type 0 where
  pub agreement : IsHonestAgreement client_keys realm_keys certificate asked.moment asked.words trust call
  pub realm_trusted : IsTrusted realm_keys client_keys (expected_realm asked) agreement.pkinit.own
      (IsKeyInfoText agreement.agreeing.realm_key.subject_public_key call.body.nonce.0)

-- An honest exchange that ends: the realm has random bytes enough, the client's clock is near the realm's, and the client remembers the
-- body's nonce.
pub record IsExchangeMet (client_keys : KeysRecord) (certificate : Bytes) (trust : TrustRecord) (realm_keys : KeysRecord) (call : PkinitCallRecord) (asked : PkinitAskedRecord) : Type 0 where
  pub enough : AreEnoughForReply call.words
  pub near : is_far call.skew call.moment asked.moment ≡ false
  pub nonce : call.body.nonce.0 ≡ pos asked.nonce
  pub exchange : IsHonestExchange client_keys certificate trust realm_keys call asked

-- the party has a public key of its agreement by these random bytes
pub record HasPublicKey (keys : KeysRecord) (words : Bytes) : Type 0 where
  pub element : Raw
  pub value : keys.public_value words ≡ Some element
  pub key : AgreementPublicKey
  pub is_key : IsPublicKey element key

-- the realm grants a request with these padata, and the client takes the same secret from the reply
pub record HaveOneSecret (client_keys : KeysRecord) (trust : TrustRecord) (realm_keys : KeysRecord) (call : PkinitCallRecord) (asked : PkinitAskedRecord) (padata : Bytes) : Type 0 where
  pub enough : AreEnoughForReply call.words
  pub agreed : AgreedRecord
  pub granted : (pkinit_table realm_keys trust call padata).gives (Ok agreed)
  pub taken : (secret_of client_keys asked agreed.reply).gives (Ok agreed.secret)

-- by these padata, and by the client's public key, both come to one secret
pub record IsAgreedBy (client_keys : KeysRecord) (trust : TrustRecord) (realm_keys : KeysRecord) (call : PkinitCallRecord) (asked : PkinitAskedRecord) (padata : Bytes) : Type 0 where
  pub own : HasPublicKey client_keys asked.words
  pub secret : HaveOneSecret client_keys trust realm_keys call asked padata
