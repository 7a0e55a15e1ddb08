-- Where MICs of a list of mechanisms are due, and that the initiator's was verified (RFC 4178, section 5).
use Rattle.std.specs.Prelude.{◌≡◌, ℕ, true}
use Rattle.picky_asn1.specs.Bytes.{Bytes}
use Rattle.gss_contexts.specs.Contexts.{ContextRecord, peer, sender_of}
use Rattle.gss_contexts.specs.Tokens.{IsMicOf}
use Rattle.gss_acceptor.specs.declared.accepted.Accepted.{Accepted}
use Rattle.gss_acceptor.specs.declared.accepted.Accepted.TheVariants.{ContinueNeeded, Established}
use Rattle.gss_acceptor.specs.declared.accepted.Stage.{Stage}
use Rattle.gss_acceptor.specs.declared.accepted.Stage.TheVariants.{Token, Mic}

-- the octets are the initiator's MIC of the list, under the context's key
pub record HasMic (list : Bytes) (context : ContextRecord) : Type 0 where
  pub end : ContextRecord
  pub same : sender_of end ≡ sender_of context
  pub number : ℕ
  pub theirs : Bytes
  pub is_mic_of : IsMicOf (peer end) number list theirs

-- the negotiation is of this list, and the initiator's MIC is due
abbrev pub IsDue : Bytes → Stage → Type 0
IsDue list (Token terms) = (terms.required ≡ true) × (terms.list ≡ list)
IsDue list (Mic unverified) = unverified.list ≡ list

-- Where MICs are due, no context is handed out before the initiator's MIC was verified (RFC 4178, section 5). Test: `Wrong MICs: of
-- another list,`.
abbrev pub IsDueAfter : Bytes → Accepted → Type 0
IsDueAfter list (Established established) = HasMic list established.context
IsDueAfter list (ContinueNeeded continuation) = IsDue list continuation.negotiation.stage
