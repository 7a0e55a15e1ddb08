use Rattle.gss_initiator.proofs.asking.summed_token.Goals as goal

pub returns : goal.returns
returns c = rw (c.in_ok-checksum.ensures, c.is_set-wants_reply.ensures) at c.token_with.ensures
