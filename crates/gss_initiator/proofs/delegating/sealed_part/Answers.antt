use Rattle.gss_initiator.proofs.delegating.sealed_part.Goals as goal

pub returns : goal.returns
returns c = rw (c.confounder_at-confounder.ensures.part, c.suite.ensures, c.key.ensures) at c.in_ok-sealed.ensures
