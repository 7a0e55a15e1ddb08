use Rattle.krb_client.proofs.by_key.sealed_time.Goals as goal

pub returns : goal.returns
returns c = record {
  second = c.second-second.result;
  of_moment = c.second-second.ensures;
  sealed = rw (c.deref.ensures.value, c.in_ok-plain.ensures, c.microsecond.ensures.value) at c.in_ok-sealed.ensures;
}
