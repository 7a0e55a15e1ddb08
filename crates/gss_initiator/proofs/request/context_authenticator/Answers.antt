use Rattle.gss_initiator.proofs.request.context_authenticator.Goals as goal

pub returns : goal.returns
returns c = record {
  plain = c.in_ok-plain.plain;
  authenticates = rw (c.in_ok-parts.ensures, c.suite.ensures) at c.in_ok-plain.ensures;
  numbers = rw c.in_ok-parts.ensures at c.numbered.ensures;
}
