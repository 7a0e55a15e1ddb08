-- Which logins by certificate are honest (RFC 4556, section 3.2).
use Rattle.picky_asn1.specs.Bytes.{Bytes}
use Rattle.krb_kdc_exchanges.specs.Call.{pkinit_call}
use Rattle.krb_kdc_exchanges.specs.PkinitCalls.{PkinitCallRecord}
use Rattle.krb_client.specs.Client.{ClientRecord}
use Rattle.krb_service.specs.Service.{ServiceRecord}
use Rattle.krb_logins.specs.Authenticated.{as_body_of_login, first_asked}
use Rattle.krb_logins.specs.Honest.{IsHonestLogin}
use Rattle.krb_logins.specs.Parties.{LoginRecord, RealmRecord, RememberedRecord, call_at}
use Rattle.x509_keys.specs.KeyFunctions.{KeysRecord}
use Rattle.pkinit_validation.specs.Anchors.{AnchorRecord}
use Rattle.pkinit_validation.specs.Trust.{TrustRecord}
use Rattle.pkinit_clients.specs.Asked.{PkinitAskedRecord}
use Rattle.pkinit_clients.specs.Means.{pkinit_asked}
use Rattle.krb_realm.specs.Exchange.{IsHonestExchange}

-- the call by which the realm judges the login's AS-REQ
abbrev pub pkinit_call_of_login : ClientRecord → RealmRecord → LoginRecord → PkinitCallRecord
pkinit_call_of_login client realm login = pkinit_call (call_at realm login.realm_as login.realm_words_as) client.components (as_body_of_login client login)

-- what the client remembers of the login's AS-REQ
abbrev pub pkinit_asked_of_login : AnchorRecord → ClientRecord → LoginRecord → PkinitAskedRecord
pkinit_asked_of_login anchor client login = pkinit_asked anchor client (first_asked client login)

-- An honest login by certificate: the parties know one another, each exchange is timely, and the AS exchange is honest. So both agree on
-- one secret. The realm has an anchor and a certificate of its own. Each accepts the other's certificate under its own anchor, and
-- verifies what its holder signs in this login: the client's AuthPack and the realm's KDCDHKeyInfo.
pub record IsHonestByCertificate (client : ClientRecord) (certificate : Bytes) (anchor : AnchorRecord) (client_keys : KeysRecord) (realm : RealmRecord) (trust : TrustRecord)
    (realm_keys : KeysRecord) (service : ServiceRecord) (before : RememberedRecord) (login : LoginRecord) : Type 0 where
  pub honest : IsHonestLogin client realm service before login
  pub exchange : IsHonestExchange client_keys certificate trust realm_keys (pkinit_call_of_login client realm login) (pkinit_asked_of_login anchor client login)
