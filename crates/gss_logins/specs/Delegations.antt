-- What an initiator delegates, and what the acceptor has of it (RFC 4121, section 4.1.1.1; RFC 4120, section 5.8).
use Rattle.std.specs.Prelude.{◌≡◌, ◌<◌, ◌^◌, [], ◌∷◌, length, Some, Ok}
use Rattle.asn1_der.specs.Tree.{IsWhole}
use Rattle.picky_asn1.specs.Bytes.{Bytes}
use Rattle.krb_crypto.specs.Suites.{cipher_key_size}
use Rattle.krb_messages.specs.declared.data_types.encryption_key.EncryptionKey.{EncryptionKey}
use Rattle.krb_client.specs.Client.{ClientRecord, CredentialRecord}
use Rattle.krb_tickets.specs.Sealing.{encryption_key}
use Rattle.gss_acceptor.specs.Checksum.{initial_in}
use Rattle.gss_acceptor.specs.Delegation.{delegation, enc_krb_cred_part_tree}
use Rattle.gss_acceptor.specs.declared.checksum.InitialChecksum.{InitialChecksum}
use Rattle.gss_acceptor.specs.declared.delegation.Delegated.{Delegated}
use Rattle.gss_initiator.specs.Delegating.{cred_info, cred_part, delegating, delegating_checksum}
use Rattle.gss_logins.specs.Honest.{ticket_tree}

-- the session key of the credential is one of its suite, the ticket that is handed on has an encoding, and so has what is told of it; the
-- bindings are a hash, and the flags a number of 32 bits
pub record CanDelegate (client : ClientRecord) (credential forwarded : CredentialRecord) (initial : InitialChecksum) : Type 0 where
  pub keyed : length credential.key ≡ cipher_key_size credential.suite
  pub ticket : IsWhole (ticket_tree forwarded.ticket)
  pub told : IsWhole (enc_krb_cred_part_tree (cred_part client forwarded))
  pub hashed : length initial.bindings ≡ 16
  pub flagged : initial.flags.0 < 2 ^ 32

-- what is handed out: the ticket, and what the initiator told of it
abbrev pub handed_out : ClientRecord → CredentialRecord → Delegated
handed_out client forwarded = record { tickets = record { 0 = forwarded.ticket } ∷ []; infos = cred_info client forwarded ∷ [] }

-- the session key that both sides have
abbrev pub session_of : CredentialRecord → EncryptionKey
session_of credential = encryption_key credential.suite credential.key

-- The acceptor reads the bindings and flags of the initiator's checksum, and of what it delegates the ticket and what is told of it.
pub record IsHandedOut (client : ClientRecord) (credential forwarded : CredentialRecord) (initial : InitialChecksum) (deleg : Bytes) : Type 0 where
  pub read : initial_in (Some (delegating_checksum (delegating initial) deleg)) ≡ Ok (delegating initial)
  pub delegates : (delegation (delegating initial).flags (session_of credential) (Some (delegating_checksum (delegating initial) deleg))).gives (Ok (Some (handed_out client forwarded)))
