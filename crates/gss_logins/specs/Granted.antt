-- Logins by GSS with what an honest login granted (RFC 4120, sections 3.1 to 3.3; RFC 4121, section 4.1).
use Rattle.std.specs.Prelude.{◌≡◌, length, None}
use Rattle.krb_messages.specs.RandomBytes.{Random, AreEnoughForRequest}
use Rattle.krb_client.specs.Client.{ClientRecord, CredentialRecord}
use Rattle.krb_service.specs.Seen.{IsWindow}
use Rattle.krb_service.specs.Service.{ServiceRecord}
use Rattle.krb_logins.specs.Honest.{AreEnough, AreParties, IsHonestLogin}
use Rattle.krb_logins.specs.Parties.{LoginRecord, RealmRecord, RememberedRecord}
use Rattle.gss_acceptor.specs.declared.checksum.InitialChecksum.{InitialChecksum}
use Rattle.gss_acceptor.specs.declared.terms.AcceptorTerms.{AcceptorTerms}
use Rattle.gss_initiator.specs.Initiating.{refusal_of}
use Rattle.gss_logins.specs.GssLogins.{GssLogin}
use Rattle.gss_logins.specs.Honest.{IsAnswering}

-- in place of the login's AP exchange, and at its moments, the client asks for a context by its credential
abbrev pub gss_login_of : ClientRecord → CredentialRecord → InitialChecksum → Random → ServiceRecord → AcceptorTerms → RememberedRecord → LoginRecord → GssLogin
gss_login_of client credential initial words service terms before login = record {
  client = client;
  credential = credential;
  initial = initial;
  client_at = login.client_ap;
  words = words;
  service = service;
  terms = terms;
  admitted = before.admitted;
  service_at = login.service_ap;
  service_words = login.service_words;
}

-- the client asks for a context that is offered, and has random bytes enough
pub record IsContextAsked (client : ClientRecord) (initial : InitialChecksum) (words : Random) : Type 0 where
  pub offered : refusal_of client.suite initial.flags ≡ None
  pub hashed : length initial.bindings ≡ 16
  pub enough : AreEnoughForRequest words

-- the service remembers what the login says that it remembers
pub record IsRemembered (service : ServiceRecord) (before : RememberedRecord) : Type 0 where
  pub greatest : before.greatest ≡ service.seen.greatest
  pub window : IsWindow service.seen before.admitted

-- the premises of an honest login, by whatever means, whose client then asks for a context
pub record IsHonestGssLogin (client : ClientRecord) (realm : RealmRecord) (service : ServiceRecord) (terms : AcceptorTerms) (before : RememberedRecord) (login : LoginRecord) (initial : InitialChecksum) (words : Random) : Type 0 where
  pub parties : AreParties client service
  pub enough : AreEnough login
  pub honest : IsHonestLogin client realm service before login
  pub asked : IsContextAsked client initial words
  pub remembered : IsRemembered service before
  pub answering : IsAnswering terms initial login.service_words
