use Rattle.std.proofs.Common.{refl}
use Rattle.std.proofs.lemmas.Result.{err_from_is_err_and}
use Rattle.krb_password_changes.proofs.Answered.{answered, not_answered}
use Rattle.krb_password_changes.proofs.answer.answer_request.Goals as goal

pub returns-in_err-found-clause-answers : goal.returns-in_err-found-clause-answers
returns-in_err-found-clause-answers c = λ admitted w.
    let exit = err_from_is_err_and c.from_residual.result c.from_residual.ensures.1 in
    rw (exit.1, exit.2)
    (not_answered _ c.args.rules.now c.args.message.now _ _ c.in_err-found.field-0.0 _ (c.in_err-found.ensures.admits admitted w) refl)

pub returns-clause-answers : goal.returns-clause-answers
returns-clause-answers c = λ admitted w.
    answered _ c.args.rules.now c.args.message.now _ _ c.in_ok-found.found c.change_password-outcome.result _
    (c.in_ok-found.ensures.admits admitted w) c.change_password-outcome.ensures
