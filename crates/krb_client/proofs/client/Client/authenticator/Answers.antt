use Rattle.krb_client.proofs.client.Client.authenticator.Goals as goal

pub returns : goal.returns
returns c = record {
  second = c.second-second.result;
  of_moment = c.second-second.ensures;
  is_made = rw (c.in_ok-parts.ensures, c.microsecond.ensures.value) at c.authenticator_with.ensures;
}
