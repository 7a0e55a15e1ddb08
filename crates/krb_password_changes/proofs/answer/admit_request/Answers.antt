use Rattle.std.proofs.lemmas.Result.{err_from_is_err_and}
use Rattle.krb_password_changes.proofs.Answered.{no_frame, request_admitted, request_refused}
use Rattle.krb_password_changes.proofs.answer.admit_request.Goals as goal

pub returns-in_err-frame-clause-admits : goal.returns-in_err-frame-clause-admits
returns-in_err-frame-clause-admits c = λ admitted w.
    let exit = err_from_is_err_and c.from_residual.result c.from_residual.ensures.1 in
    rw (exit.1, exit.2)
    (no_frame _ c.args.message.now c.in_err-frame.field-0.0 _ c.in_err-frame.ensures.table w)

pub returns-in_err-admission-clause-admits : goal.returns-in_err-admission-clause-admits
returns-in_err-admission-clause-admits c = λ admitted w.
    let exit = err_from_is_err_and c.from_residual-in_err-admission.result c.from_residual-in_err-admission.ensures.1 in
    rw (exit.1, exit.2)
    (request_refused _ c.args.message.now c.in_ok-frame.frame.ap_message.now c.in_ok-frame.frame.krb_priv.now c.in_ok-frame.frame.version
    c.in_err-admission.field-0.0 _ c.in_ok-frame.ensures.frame (c.in_err-admission.ensures.remembers admitted w))

pub returns-clause-admits : goal.returns-clause-admits
returns-clause-admits c = λ admitted w.
    request_admitted _ c.args.message.now c.in_ok-frame.frame.ap_message.now
    (record { version = c.in_ok-frame.frame.version; admission = c.in_ok-admission.admission; krb_priv = c.in_ok-frame.frame.krb_priv })
    _ c.in_ok-frame.ensures.frame (c.in_ok-admission.ensures.remembers admitted w)
