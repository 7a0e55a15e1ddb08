-- What a negotiation goes on with: the token to send, and what waits for the initiator's next token.
use Rattle.picky_asn1.specs.Bytes.{Bytes}
use Rattle.gss_acceptor.specs.declared.accepted.Negotiation.{Negotiation}

pub record ContinuationRecord : Type 0 where
  pub reply : Bytes
  pub negotiation : Negotiation
