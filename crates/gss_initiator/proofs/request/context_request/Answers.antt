use Rattle.gss_initiator.proofs.request.context_request.Goals as goal

pub returns : goal.returns
returns c = record {
  authenticator = c.in_ok-authenticator.authenticator;
  authenticates = c.in_ok-authenticator.ensures;
  presents = rw (c.confounder_at-confounder.ensures.part, c.suite-suite.ensures) at c.in_ok-bytes.ensures;
}
