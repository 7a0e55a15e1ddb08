-- Which logins by RSA certificates are honest (RFC 4556, section 3.2).
use Rattle.std.specs.Prelude.{◌≡◌, Some}
use Rattle.picky_asn1_der.specs.Raw.{Raw}
use Rattle.picky_asn1.specs.Bytes.{Bytes}
use Rattle.public_key_cryptography.specs.declared.group.Group.{Group}
use Rattle.krb_client.specs.Asked.{agreement_part}
use Rattle.krb_client.specs.Client.{ClientRecord}
use Rattle.krb_service.specs.Service.{ServiceRecord}
use Rattle.krb_logins.specs.Honest.{IsHonestLogin}
use Rattle.krb_logins.specs.Parties.{LoginRecord, RealmRecord, RememberedRecord}
use Rattle.pkinit_validation.specs.Anchors.{AnchorRecord}
use Rattle.pkinit_validation.specs.Certificates.{ReadRecord}
use Rattle.pkinit_validation.specs.Expected.{ExpectedRecord}
use Rattle.pkinit_validation.specs.AgreementBytes.{agreement_bytes}
use Rattle.pkinit_validation.specs.Trust.{TrustRecord}
use Rattle.pkinit_clients.specs.Asked.{expected_realm}
use Rattle.krb_realm.specs.Agreements.{IsAcceptedFor}
use Rattle.krb_realm.specs.Honest.{IsPkinitRealm, expected_client}
use Rattle.krb_realm.specs.HonestByCertificate.{pkinit_asked_of_login, pkinit_call_of_login}
use Rattle.public_key_cryptography.specs.RightKeys.{IsRight}
use Rattle.rsa_keys.specs.Agreements.{own_value}
use Rattle.rsa_keys.specs.Functions.{IsPublicPart, rsa_functions}
use Rattle.rsa_keys.specs.declared.own_key.OwnKey.{OwnKey}

-- the other party accepts the certificate as that of the expected principal, whose key is the party's own. The numbers of the own key
-- belong together, so it signs each text (law `right_key_signs`)
pub record IsCertified (group : Group) (own other : OwnKey) (expected : ExpectedRecord) (certificate : Bytes) : Type 0 where
  pub read : ReadRecord
  pub accepts : IsAcceptedFor (rsa_functions group (Some other)) expected certificate read
  pub is_own : IsPublicPart own read.certificate.tbs_certificate.subject_public_key_info
  pub right : IsRight own.private

-- an honest login by RSA certificates: the parties know one another, and each exchange is timely. The random bytes of each give a public
-- value of the group. The realm has an anchor and a certificate of its own. Each accepts the other's certificate under its own anchor.
-- By its own key the client signs the AuthPack and the realm the KDCDHKeyInfo
pub record IsHonestByRsa (group : Group) (client : ClientRecord) (certificate : Bytes) (anchor : AnchorRecord) (client_own : OwnKey) (realm : RealmRecord) (trust : TrustRecord)
    (realm_own : OwnKey) (service : ServiceRecord) (before : RememberedRecord) (login : LoginRecord) : Type 0 where
  pub honest : IsHonestLogin client realm service before login
  pub client_value : Raw
  pub has_client_value : own_value group (agreement_part login.words_as) ≡ Some client_value
  pub realm_value : Raw
  pub has_realm_value : own_value group (agreement_bytes login.realm_words_as) ≡ Some realm_value
  pub pkinit : IsPkinitRealm trust
  pub client_certified : IsCertified group client_own realm_own (expected_client (pkinit_call_of_login client realm login) pkinit.anchor) certificate
  pub realm_certified : IsCertified group realm_own client_own (expected_realm (pkinit_asked_of_login anchor client login)) pkinit.own
