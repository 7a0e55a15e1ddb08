-- What an established context has of the authenticator and the ticket of the AP-REQ (RFC 4121, sections 2, 4.1.1 and 4.2; RFC 4120,
-- section 3.2.3).
use Rattle.std.specs.Prelude.{◌≡◌, ◌≤◌, ℕ, Bool, true, false, Ok}
use Rattle.krb_crypto.specs.Keys.{KeyRecord}
use Rattle.krb_messages.specs.RandomBytes.{Random}
use Rattle.krb_service.specs.Admission.{authorization_data_of, checksum_of, seq_number_of, subkey_of}
use Rattle.krb_ap_requests.specs.Presents.{Choice}
use Rattle.gss_acceptor.specs.Checksum.{initial_in}
use Rattle.gss_acceptor.specs.Contexts.{context_key, first_number, own_key}
use Rattle.gss_acceptor.specs.Delegation.{delegation}
use Rattle.gss_acceptor.specs.Established.{EstablishedRecord}
use Rattle.gss_acceptor.specs.declared.accepted.Accepted.{Accepted}
use Rattle.gss_acceptor.specs.declared.accepted.Accepted.TheVariants.{ContinueNeeded, Established}
use Rattle.gss_acceptor.specs.declared.accepted.Stage.{Stage}
use Rattle.gss_acceptor.specs.declared.accepted.Stage.TheVariants.{Token, Mic}
use Rattle.krb_ap_requests.specs.ApTable.{starttime_of}

-- the key is the acceptor's subkey, of the session key's suite; or else the authenticator's subkey if it has one, or else the session key
abbrev pub IsKeyOf : Bool → Choice → KeyRecord → Type 0
IsKeyOf false choice key = context_key (subkey_of choice.authenticator) choice.part.key.0 ≡ Ok key
IsKeyOf true choice key = (words : Random) × (own_key choice.part.key.0 words ≡ Ok key)

-- the client, the times, the ticket's flags and the authorization data are the ticket's; flags and bindings are the authenticator's, and so
-- is what is delegated, under the ticket's session key; the key is by both. No number below the authenticator's is taken: those of a
-- verified MIC and before it aren't, too
pub record IsChosen (choice : Choice) (established : EstablishedRecord) : Type 0 where
  pub realm : established.realm ≡ choice.part.crealm.0
  pub client : established.client ≡ choice.part.cname.0
  pub authtime : established.authtime ≡ choice.part.auth_time.0.0
  pub starttime : established.starttime ≡ starttime_of choice.part
  pub endtime : established.endtime ≡ choice.part.endtime.0.0
  pub ticket_flags : established.ticket_flags ≡ choice.part.flags.0
  pub authorization_data : established.authorization_data ≡ authorization_data_of choice.part
  pub initial : initial_in (checksum_of choice.authenticator) ≡ Ok (record { bindings = established.bindings; flags = established.flags })
  pub delegated : (delegation established.flags choice.part.key.0 (checksum_of choice.authenticator)).gives (Ok established.delegated)
  pub first : ℕ
  pub number : first_number (seq_number_of choice.authenticator) ≡ Ok first
  pub from_first : first ≤ established.context.taking
  pub key : IsKeyOf established.context.acceptor_subkey choice established.context.key

-- a context waits for the initiator's MIC, and it is as the client chose
abbrev pub IsChosenAt : Choice → Stage → Type 0
IsChosenAt choice (Token terms) = ⊥
IsChosenAt choice (Mic unverified) = IsChosen choice unverified.established

-- The context that is established, or that waits for the initiator's MIC, is as the client chose.
abbrev pub IsChosenAfter : Choice → Accepted → Type 0
IsChosenAfter choice (Established established) = IsChosen choice established
IsChosenAfter choice (ContinueNeeded continuation) = IsChosenAt choice continuation.negotiation.stage
