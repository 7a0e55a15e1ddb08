use Rattle.std.proofs.Common.{subst, sym}
use Rattle.picky_asn1_der.specs.Found.{IsFound}
use Rattle.krb_realm_accounts.specs.Accounts.{look_in}
use Rattle.krb_kdc_exchanges.specs.Call.{call_of}
use Rattle.krb_messages.specs.Padata.{padata_in}
use Rattle.krb_messages.specs.TicketGranting.{krbtgt_of}
use Rattle.krb_kdc.specs.Tickets.{IsTgsReqTicket}
use Rattle.krb_kdc.proofs.Answered.{tgs_by_few, tgs_replied}
use Rattle.krb_kdc.proofs.Told.{told}
use Rattle.krb_kdc.proofs.answer.tgs_answer.Goals as goal

pub returns-clause-answer : goal.returns-clause-answer
returns-clause-answer g c = λ all known.
    tgs_replied c.args.call.now all _ (call_of c.with.result) c.with.ensures.call c.in_ok-reply.reply.bytes.items c.args.request.now (c.in_ok-further.ensures.few all known)
    c.in_ok-reply.ensures.reply

pub returns-clause-told : goal.returns-clause-told
returns-clause-told g c = λ message read.
    told g.O.Observer.sees (g.L.Lookup.holds c.args.lookup.now) c.args.call.now.realm.now message c.in_ok-reply.reply.bytes.items _ _ _ c.see_tgs.ensures
    (record { request = read; outcome = c.in_ok-reply.ensures.outcome })
    (λ all known. (
      (c.in_ok-further.ensures.few all known).granting,
      subst (λ t. IsFound (IsTgsReqTicket c.in_ok-further.further.few (krbtgt_of c.args.call.now.realm.now) (padata_in c.args.request.now)) t) (sym c.as_ref-ticket.ensures.value)
          (c.in_ok-further.ensures.ticket all known),
    ))

pub returns-clause-some : goal.returns-clause-some
returns-clause-some g c = (
  look_in c.in_ok-further.further.few,
  tgs_by_few c.args.call.now c.in_ok-further.further.few (call_of c.with.result) c.with.ensures.call c.args.request.now c.in_ok-reply.reply.bytes.items c.in_ok-reply.ensures.reply,
)
