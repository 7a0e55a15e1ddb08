-- A login by certificate, or by a key, of parties as their parts hold them.
use Rattle.std.proofs.Common.{◌≡◌, Bool, Result, sym, ◌∙◌, subst}
use Rattle.std.specs.Prelude.{◌↔◌, IfOk, IsTrue}
use Rattle.picky_asn1.specs.Bytes.{Bytes}
use Rattle.x509_keys.specs.KeyFunctions.{KeysRecord}
use Rattle.krb_client.specs.Client.{ClientRecord}
use Rattle.krb_service.specs.Service.{ServiceRecord}
use Rattle.krb_crypto.specs.Keys.{KeyRecord}
use Rattle.krb_logins.specs.Honest.{IsHonestByPassword}
use Rattle.krb_logins.specs.Parties.{LoginRecord, RealmRecord, RememberedRecord}
use Rattle.krb_logins.proofs.Judged.{judged_last}
use Rattle.krb_realm.specs.Clients.{ByCertificate, ByKey, ClientBy}
use Rattle.krb_realm.specs.HonestByCertificate.{IsHonestByCertificate}
use Rattle.pkinit_validation.specs.Anchors.{AnchorRecord}
use Rattle.pkinit_validation.specs.Trust.{TrustRecord}

-- client and realm with their key functions
pub record PartiesRecord : Type 0 where
  pub client : ClientRecord
  pub certificate : Bytes
  pub anchor : AnchorRecord
  pub client_keys : KeysRecord
  pub realm : RealmRecord
  pub trust : TrustRecord
  pub realm_keys : KeysRecord

-- a client with its key, and a realm
pub record KeyedRecord : Type 0 where
  pub client : ClientRecord
  pub key : KeyRecord
  pub realm : RealmRecord

module _ (service : ServiceRecord) (before : RememberedRecord) (login : LoginRecord) where
  abbrev pub IsHonestOf : PartiesRecord → Type 0
  IsHonestOf p = IsHonestByCertificate p.client p.certificate p.anchor p.client_keys p.realm p.trust p.realm_keys service before login

  abbrev pub IsHonestKeyed : KeyedRecord → Type 0
  IsHonestKeyed p = IsHonestByPassword p.client p.key.bytes p.realm service before login

  -- a client by certificate whose parts are those of these parties
  module _ (by : ClientBy) (own parties : PartiesRecord) (same : own ≡ parties) (is_by : by ≡ ByCertificate parties.certificate parties.anchor) where
    abbrev pub Certified : Type 0
    Certified =
        (certificate : Bytes) × (anchor : AnchorRecord) × (by ≡ ByCertificate certificate anchor)
        × IsHonestByCertificate parties.client certificate anchor parties.client_keys parties.realm parties.trust parties.realm_keys service before login

    own_certificate : Certified → IsHonestOf own
    own_certificate found =
        let both = sym is_by ∙ found.2 in
        let certificate : found.0 ≡ parties.certificate = cc (both) in
        let anchor : found.1 ≡ parties.anchor = cc (both) in
        let found_parties : PartiesRecord = record parties { certificate = found.0; anchor = found.1 } in
        let equal : found_parties ≡ parties = λ i. record parties { certificate = certificate i; anchor = anchor i } in
        subst IsHonestOf (sym same) (subst IsHonestOf equal found.3)

    pub certified_as : {E : Type 0} (r : Result Bool E) → IfOk r (λ is. IsTrue is ↔ IsHonestOf own) → IfOk r (λ is. IsTrue is ↔ Certified)
    certified_as r = judged_last (IsHonestOf own) Certified r (λ honest. (parties.certificate, parties.anchor, is_by, subst IsHonestOf same honest)) own_certificate

  -- a client by a key whose parts are those of these parties
  module _ (by : ClientBy) (own parties : KeyedRecord) (same : own ≡ parties) (is_by : by ≡ ByKey parties.key) where
    abbrev pub Keyed : Type 0
    Keyed = (key : KeyRecord) × (by ≡ ByKey key) × IsHonestByPassword parties.client key.bytes parties.realm service before login

    own_key : Keyed → IsHonestKeyed own
    own_key found =
        let both = sym is_by ∙ found.1 in
        let key : found.0 ≡ parties.key = cc (both) in
        let found_parties : KeyedRecord = record parties { key = found.0 } in
        let equal : found_parties ≡ parties = λ i. record parties { key = key i } in
        subst IsHonestKeyed (sym same) (subst IsHonestKeyed equal found.2)

    pub keyed_as : {E : Type 0} (r : Result Bool E) → IfOk r (λ is. IsTrue is ↔ IsHonestKeyed own) → IfOk r (λ is. IsTrue is ↔ Keyed)
    keyed_as r = judged_last (IsHonestKeyed own) Keyed r (λ honest. (parties.key, is_by, subst IsHonestKeyed same honest)) own_key
