use Rattle.std.proofs.Common.{refl}
use Rattle.krb_logins.specs.Input.{login_of}
use Rattle.krb_logins.specs.ApExchanges.{remembered}
use Rattle.krb_logins.proofs.Admitting.{ap_keyed, ap_refused, ap_unasked}
use Rattle.krb_logins.proofs.StepEnds.{exit_of}
use Rattle.krb_logins.proofs.presenting.ap_exchange.Goals as goal

pub returns-in_err-request-clause-run : goal.returns-in_err-request-clause-run
returns-in_err-request-clause-run c = λ admitted window.
    ap_unasked c.args.client.now c.args.service.now (login_of c.args.input.now) c.args.credential.now (remembered c.args.service.now admitted) c.args.service.now.seen
    c.from_residual.result c.in_err-request.field-0.0 c.in_err-request.ensures
    (exit_of c.from_residual.result c.in_err-request.field-0.0 c.from_residual.ensures.1) window refl

pub returns-in_err-admission-clause-run : goal.returns-in_err-admission-clause-run
returns-in_err-admission-clause-run c = λ admitted window.
    ap_refused c.args.client.now c.args.service.now (login_of c.args.input.now) c.args.credential.now (remembered c.args.service.now admitted) c.admit.new.service.seen
    c.in_ok-request.request c.in_ok-request.asked c.deref.result.now c.in_ok-request.ensures c.deref.ensures.value
    c.from_residual-in_err-admission.result c.in_err-admission.field-0.0 (c.in_err-admission.ensures.admits admitted window)
    (exit_of c.from_residual-in_err-admission.result c.in_err-admission.field-0.0 c.from_residual-in_err-admission.ensures.1)

pub returns-clause-run : goal.returns-clause-run
returns-clause-run c = λ admitted window.
    ap_keyed c.args.client.now c.args.service.now (login_of c.args.input.now) c.args.credential.now (remembered c.args.service.now admitted) c.admit.new.service.seen
    c.in_ok-request.request c.in_ok-request.asked c.deref.result.now c.in_ok-request.ensures c.deref.ensures.value
    c.in_ok-admission.admission (c.in_ok-admission.ensures.admits admitted window) c.keyed.result c.keyed.ensures
