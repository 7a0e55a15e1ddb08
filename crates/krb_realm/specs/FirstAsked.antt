-- Who asked for a first ticket, by name: a client by its certificate, or by the key of its account.
use Rattle.std.specs.Prelude.{◌≡◌, ◌⊎◌, List, Some}
use Rattle.picky_asn1.specs.Bytes.{Bytes}
use Rattle.krb_time.specs.Units.{Micros}
use Rattle.krb_messages.specs.Names.{components}
use Rattle.krb_messages.specs.declared.data_types.principal_name.PrincipalName.{PrincipalName}
use Rattle.krb_authenticity.specs.Among.{IsAmong}
use Rattle.krb_authenticity.specs.Named.{AreByOwnKeys, AreKeysApart, IsAskedByName}
use Rattle.krb_authenticity.specs.Parties.{ExchangeRecord, SentRecord}
use Rattle.x509_keys.specs.KeyFunctions.{KeysRecord}
use Rattle.x509_keys.specs.declared.subject_public_key_info.SubjectPublicKeyInfo.{SubjectPublicKeyInfo}
use Rattle.pkinit_validation.specs.Anchors.{AnchorRecord}
use Rattle.pkinit_validation.specs.Expected.{ExpectedRecord}
use Rattle.pkinit_validation.specs.Trust.{TrustRecord}
use Rattle.krb_realm.specs.Signatures.{AreSignaturesMade, CertifiedRequest, IsByCertificate}

-- each client has keys of its own: nobody else signs under these public keys, no two accounts share a key, and a request by a key is by that of
-- its client's account
pub record AreKeysOwn (keys : KeysRecord) (holders : List SubjectPublicKeyInfo) (certified : List CertifiedRequest) (exchange : ExchangeRecord) (sent : SentRecord) : Type 0 where
  pub signatures : AreSignaturesMade keys holders certified exchange
  pub apart : AreKeysApart exchange.call.look
  pub by_own : AreByOwnKeys exchange.call sent

-- the principal that a certificate has to name, under this anchor at this moment
abbrev pub expected_by : Bytes → PrincipalName → AnchorRecord → Micros → ExpectedRecord
expected_by realm client anchor moment = record { realm = realm; name = components client; anchor = anchor; moment = moment }

-- the realm accepted a certificate of this client under its anchor, and if the certificate's key is one of these, a client that has this
-- certificate asked
pub record IsCertifiedClient (keys : KeysRecord) (trust : TrustRecord) (holders : List SubjectPublicKeyInfo) (certified : List CertifiedRequest) (exchange : ExchangeRecord) (realm : Bytes) (client : PrincipalName) : Type 0 where
  pub anchor : AnchorRecord
  pub is_anchor : trust.anchor ≡ Some anchor
  pub by : IsByCertificate keys (expected_by realm client anchor exchange.call.moment) holders certified exchange

-- the client of this realm and name asked: by its certificate, or by this key of its account, if that is one of these
abbrev pub IsAskedByClient : KeysRecord → TrustRecord → List Bytes → List SubjectPublicKeyInfo → List CertifiedRequest → SentRecord → ExchangeRecord → Bytes → Bytes → PrincipalName → Type 0
IsAskedByClient keys trust secrets holders certified sent exchange own realm client =
    IsCertifiedClient keys trust holders certified exchange realm client
    ⊎ (IsAmong own secrets → IsAskedByName sent exchange realm client)
