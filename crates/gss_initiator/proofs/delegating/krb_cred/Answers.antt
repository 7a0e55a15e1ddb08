use Rattle.gss_initiator.proofs.delegating.krb_cred.Goals as goal

pub returns : goal.returns
returns c = record {
  part = c.in_ok-sealed.sealed;
  sealed = rw (c.deref.ensures.value, c.in_ok-plain.ensures) at c.in_ok-sealed.ensures;
  encoding = rw (c.in_ok-message.ensures, c.ticket.ensures) at c.in_ok-bytes.ensures;
}
