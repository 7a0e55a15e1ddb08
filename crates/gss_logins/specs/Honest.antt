-- Which logins by GSS are honest.
use Rattle.std.specs.Prelude.{◌≡◌, true, length, None, Ok}
use Rattle.std.specs.Int.{cast_unsigned, w32}
use Rattle.std.specs.List.{list_all}
use Rattle.asn1_der.specs.Tagged.{tagged_tree}
use Rattle.asn1_der.specs.Tree.{IsWhole, Tree}
use Rattle.asn1_leaves.specs.CharSets.{is_general_string}
use Rattle.picky_asn1.specs.Bytes.{Bytes}
use Rattle.krb_constants.specs.declared.key_usages.TheConstants.{TICKET_REP}
use Rattle.krb_crypto.specs.Suites.{cipher_key_size}
use Rattle.krb_messages.specs.contracts.data_types.ticket.TicketInnerTagged.TheImpl as ticket_impl
use Rattle.krb_messages.specs.declared.data_types.authenticator.AuthenticatorInner.{AuthenticatorInner}
use Rattle.krb_messages.specs.declared.data_types.enc_ticket_part.EncTicketPartInner.{EncTicketPartInner}
use Rattle.krb_messages.specs.declared.data_types.ticket.TicketInner.{TicketInner}
use Rattle.krb_tickets.specs.Sealing.{encryption_key}
use Rattle.krb_messages.specs.Messages.{enc_ticket_part_tree}
use Rattle.krb_ap_requests.specs.Presents.{SealsTo}
use Rattle.krb_service.specs.Admissible.{IsAdmissible}
use Rattle.krb_service.specs.Seen.{IsWindow}
use Rattle.krb_messages.specs.RandomBytes.{Random, AreEnoughForRequest, AreEnoughForSubkey}
use Rattle.gss_acceptor.specs.Checksum.{bound_by}
use Rattle.gss_acceptor.specs.declared.checksum.InitialChecksum.{InitialChecksum}
use Rattle.gss_acceptor.specs.declared.terms.AcceptorTerms.{AcceptorTerms}
use Rattle.gss_initiator.specs.Initiating.{refusal_of}
use Rattle.gss_initiator.specs.Requests.{IsContextAuthenticator}
use Rattle.gss_logins.specs.GssLogins.{GssLogin, choice_of, clock_of}
use Rattle.asn1_der.specs.Octets.{sequence_octet}

abbrev pub ticket_tree : TicketInner → Tree
ticket_tree = tagged_tree sequence_octet ticket_impl.ghosts.row_tree ticket_impl.ghosts.row_of

-- what the client chooses is offered, its name can be written, and it has random bytes enough
pub record IsAsking (login : GssLogin) : Type 0 where
  pub offered : refusal_of login.credential.suite login.initial.flags ≡ None
  pub hashed : length login.initial.bindings ≡ 16
  pub realm : is_general_string login.client.realm ≡ true
  pub name : list_all is_general_string login.client.components ≡ true
  pub enough : AreEnoughForRequest login.words

-- the credential's ticket has an encoding, and its part is sealed under the service's key; the session key in the part is the
-- credential's, and a key of its suite (RFC 4120, section 5.3)
pub record HasServiceTicket (login : GssLogin) : Type 0 where
  pub whole : IsWhole (ticket_tree login.credential.ticket)
  pub part : EncTicketPartInner
  pub confounder : Bytes
  pub sealed : SealsTo {T = EncTicketPartInner} enc_ticket_part_tree login.credential.ticket.enc_part.0.etype.0 login.service.entry.key (cast_unsigned w32 TICKET_REP) confounder part login.credential.ticket.enc_part.0.cipher.0
  pub session : part.key.0 ≡ encryption_key login.credential.suite login.credential.key
  pub keyed : length login.credential.key ≡ cipher_key_size login.credential.suite

-- the acceptor's channel bindings, if it has some, are the client's, or the client has none (RFC 2743, section 1.1.6); and it has random
-- bytes enough
pub record IsAnswering (terms : AcceptorTerms) (initial : InitialChecksum) (words : Random) : Type 0 where
  pub bound : bound_by terms.bindings initial ≡ Ok initial
  pub enough : AreEnoughForSubkey words

-- The client asks by a ticket that is for the service, and the service, which ever admitted these pairs, admits what the client chooses at
-- its clock: names, times, kvno and clocks agree, and the authenticator is the first of its client and time (RFC 4120, section 3.2.3)
pub record IsHonest (login : GssLogin) : Type 0 where
  pub asking : IsAsking login
  pub ticket : HasServiceTicket login
  pub answering : IsAnswering login.terms login.initial login.service_words
  pub window : IsWindow login.service.seen login.admitted
  pub admissible : (authenticator : AuthenticatorInner) → IsContextAuthenticator login.client login.credential login.initial login.client_at login.words authenticator
      → IsAdmissible login.service (clock_of login) login.admitted (choice_of login ticket.part ticket.confounder authenticator)
