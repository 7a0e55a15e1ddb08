-- When a client and a realm that are both honest agree by certificate (RFC 4556, section 3.2).
use Rattle.std.specs.Prelude.{◌≡◌, false, Some, pos}
use Rattle.picky_asn1.specs.Bytes.{Bytes}
use Rattle.krb_time.specs.Skew.{is_far}
use Rattle.krb_time.specs.Units.{Micros}
use Rattle.krb_kdc_exchanges.specs.PkinitCalls.{PkinitCallRecord}
use Rattle.x509_keys.specs.KeyFunctions.{KeysRecord}
use Rattle.pkinit_validation.specs.Anchors.{AnchorRecord}
use Rattle.pkinit_validation.specs.Certificates.{IsCertificate, ReadRecord}
use Rattle.pkinit_validation.specs.Expected.{ExpectedRecord}
use Rattle.pkinit_validation.specs.AgreementBytes.{agreement_bytes}
use Rattle.pkinit_validation.specs.Trust.{TrustRecord}
use Rattle.pkinit_clients.specs.Asked.{PkinitAskedRecord, expected_realm}
use Rattle.krb_realm.specs.Agreements.{AreAgreeing, IsKeyInfoText, IsPackText, IsTrusted, Signs}

-- whom the request is to be signed by: the client that it names, as the anchor has it at the moment of the call
abbrev pub expected_client : PkinitCallRecord → AnchorRecord → ExpectedRecord
expected_client call anchor = record { realm = call.realm; name = call.client; anchor = anchor; moment = call.moment }

-- the realm has an anchor, and a certificate of its own
pub record IsPkinitRealm (trust : TrustRecord) : Type 0 where
  pub anchor : AnchorRecord
  pub has_anchor : trust.anchor ≡ Some anchor
  pub own : Bytes
  pub has_own : trust.certificate ≡ Some own

-- Both agree on a secret by their random bytes, and the realm has an anchor and a certificate. It accepts the client's certificate,
-- whose holder signs the AuthPack.
pub record IsHonestAgreement (client_keys realm_keys : KeysRecord) (certificate : Bytes) (client_moment : Micros) (client_words : Bytes) (trust : TrustRecord)
    (call : PkinitCallRecord) : Type 0 where
  pub agreeing : AreAgreeing client_keys realm_keys client_words (agreement_bytes call.words)
  pub pkinit : IsPkinitRealm trust
  pub client_trusted : IsTrusted client_keys realm_keys (expected_client call pkinit.anchor) certificate (IsPackText call.body client_moment agreeing.client_element)

-- The agreement is honest, and the client's clock is near the realm's. The holder of the realm's certificate signs the realm's public
-- value with the request's nonce.
pub record IsHonestRequest (client_keys realm_keys : KeysRecord) (certificate : Bytes) (client_moment : Micros) (client_words : Bytes) (trust : TrustRecord)
    (call : PkinitCallRecord) : Type 0 where
  pub agreement : IsHonestAgreement client_keys realm_keys certificate client_moment client_words trust call
  pub near : is_far call.skew call.moment client_moment ≡ false
  pub read : ReadRecord
  pub reads : IsCertificate agreement.pkinit.own read
  pub signs : Signs realm_keys client_keys read.certificate (IsKeyInfoText agreement.agreeing.realm_key.subject_public_key call.body.nonce.0)

-- both agree. The client accepts the realm's certificate, whose holder signs its public value with the request's nonce
pub record IsHonestReply (client_keys realm_keys : KeysRecord) (own realm_words : Bytes) (asked : PkinitAskedRecord) : Type 0 where
  pub agreeing : AreAgreeing client_keys realm_keys asked.words realm_words
  pub realm_trusted : IsTrusted realm_keys client_keys (expected_realm asked) own (IsKeyInfoText agreeing.realm_key.subject_public_key (pos asked.nonce))
