use Rattle.std.proofs.Common.{None, Some, subst}
use Rattle.picky_asn1_der.specs.Found.{IsFound}
use Rattle.krb_kdc.specs.Tickets.{IsTgsReqTicket}
use Rattle.krb_messages.specs.Padata.{padata_in}
use Rattle.krb_kdc.proofs.Failing.{ticket_failed}
use Rattle.krb_kdc.proofs.Opened.{no_ticket, ticket_fetched}
use Rattle.krb_kdc.proofs.ticket.fetch_client.Goals as goal

pub returns-in_default-clause-few : goal.returns-in_default-clause-few
returns-in_default-clause-few g c = λ all known.
    no_ticket all c.args.granting.now _ c.padata_in.result.now c.args.few.now c.padata_in.ensures (rw c.in_default.is at c.in_ok-part.ensures)

pub returns-in_default-clause-ticket : goal.returns-in_default-clause-ticket
returns-in_default-clause-ticket g c =
    subst (λ p. IsFound (IsTgsReqTicket c.args.few.now c.args.granting.now p) None) c.padata_in.ensures (rw c.in_default.is at c.in_ok-part.ensures)

pub returns-in-Ok-clause-few : goal.returns-in-Ok-clause-few
returns-in-Ok-clause-few g c = λ all known.
    ticket_fetched all c.args.granting.now c.as_slice.result.now _ c.padata_in.result.now c.in-Some.part c.args.few.now c.fetch.new.few c.padata_in.ensures
    c.as_slice.ensures (rw c.in-Some.is at c.in_ok-part.ensures) (c.in-Ok.ensures.few all known)

pub returns-in-Ok-clause-ticket : goal.returns-in-Ok-clause-ticket
returns-in-Ok-clause-ticket g c =
    subst (λ p. IsFound (IsTgsReqTicket c.args.few.now c.args.granting.now p) (Some c.in-Some.part)) c.padata_in.ensures (rw c.in-Some.is at c.in_ok-part.ensures)

pub returns-in-Err-clause-fault : goal.returns-in-Err-clause-fault
returns-in-Err-clause-fault g c =
    ticket_failed (g.L.Lookup.may_fail c.args.lookup.now) c.args.few.now c.args.granting.now c.as_slice.result.now (padata_in c.args.request.now) c.padata_in.result.now c.in-Some.part c.in-Err.fault
    c.padata_in.ensures c.as_slice.ensures (rw c.in-Some.is at c.in_ok-part.ensures) c.in-Err.ensures.fault
