-- A login by GSS: who takes part, and what both sides choose (RFC 4121, section 4.1).
use Rattle.std.specs.Prelude.{max, List}
use Rattle.picky_asn1.specs.Bytes.{Bytes}
use Rattle.krb_time.specs.Units.{Micros}
use Rattle.krb_crypto.specs.Suites.{cipher_confounder_size}
use Rattle.krb_messages.specs.RandomBytes.{Random, authenticator_confounder}
use Rattle.krb_messages.specs.declared.data_types.authenticator.AuthenticatorInner.{AuthenticatorInner}
use Rattle.krb_messages.specs.declared.data_types.enc_ticket_part.EncTicketPartInner.{EncTicketPartInner}
use Rattle.krb_ap_requests.specs.Presents.{Choice}
use Rattle.krb_client.specs.Client.{ClientRecord, CredentialRecord}
use Rattle.krb_service.specs.KeytabService.{keytab_service_of}
use Rattle.krb_service.specs.Pair.{PairRecord}
use Rattle.krb_service.specs.Service.{ServiceRecord}
use Rattle.krb_logins.specs.Choices.{choice_by}
use Rattle.gss_acceptor.specs.Accepting.{AcceptorRecord}
use Rattle.gss_acceptor.specs.declared.checksum.InitialChecksum.{InitialChecksum}
use Rattle.gss_acceptor.specs.declared.terms.AcceptorTerms.{AcceptorTerms}
use Rattle.gss_initiator.specs.Checksums.{is_mutual}

-- the client with its credential, what it chooses, its moment and its random bytes; the service with the acceptor's terms, the pairs that
-- it ever admitted, its moment and its random bytes
pub record GssLogin : Type 0 where
  pub client : ClientRecord
  pub credential : CredentialRecord
  pub initial : InitialChecksum
  pub client_at : Micros
  pub words : Random
  pub service : ServiceRecord
  pub terms : AcceptorTerms
  pub admitted : List PairRecord
  pub service_at : Micros
  pub service_words : Random

-- the acceptor of the service
abbrev pub acceptor_of : GssLogin → AcceptorRecord
acceptor_of login = record { service = keytab_service_of login.service; terms = login.terms }

-- the clock that the service judges by
abbrev pub clock_of : GssLogin → Micros
clock_of login = max login.service.seen.greatest login.service_at

-- the confounder of the authenticator
abbrev pub confounder_of : GssLogin → Bytes
confounder_of login = authenticator_confounder (cipher_confounder_size login.credential.suite) login.words

-- what the client chooses by an authenticator, with the ticket of its credential, whose part this is
abbrev pub choice_of : GssLogin → EncTicketPartInner → Bytes → AuthenticatorInner → Choice
choice_of login part part_confounder authenticator =
    choice_by login.credential (is_mutual login.initial.flags) part part_confounder authenticator (confounder_of login)
