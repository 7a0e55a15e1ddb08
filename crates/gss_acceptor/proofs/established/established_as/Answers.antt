use Rattle.std.proofs.Common.{Err, Ok, subst}
use Rattle.krb_service.specs.Admission.{AdmissionRecord}
use Rattle.gss_acceptor.specs.Accepting.{delegation_to}
use Rattle.gss_acceptor.specs.Negotiation.{IsRead}
use Rattle.gss_acceptor.proofs.Delegations.{as_established, as_refused}
use Rattle.gss_acceptor.proofs.established.established_as.Goals as goal

pub returns-in-Ok : goal.returns-in-Ok
returns-in-Ok c =
    let delegates = subst (λ (a : AdmissionRecord). IsRead (delegation_to a c.args.judged).gives (Ok c.in-Ok.delegated)) c.admission.view_is c.in-Ok.ensures in
    as_established c.args.admission c.args.judged c.in-Ok.delegated c.answered.result delegates c.answered.ensures.made c.answered.ensures.refused

pub returns-in-Err : goal.returns-in-Err
returns-in-Err c =
    let refuses = subst (λ (a : AdmissionRecord). IsRead (delegation_to a c.args.judged).gives (Err c.in-Err.refusal)) c.admission.view_is c.in-Err.ensures in
    as_refused c.args.admission c.args.judged c.in-Err.refusal refuses
