use Rattle.std.proofs.Common.{SFits, ℤ, Ok, Err, subst, w32}
use Rattle.std.specs.Int.{cast_unsigned}
use Rattle.std.proofs.lemmas.Int.{to_z-of_z}
use Rattle.std.proofs.lemmas.Result.{err_from_is_err_and}
use Rattle.krb_messages.specs.Refusals.{IsJudged}
use Rattle.krb_ap_requests.specs.ApTable.{authenticated}
use Rattle.krb_ap_requests.specs.declared.presented.Authenticated.{Authenticated}
use Rattle.krb_ap_requests.proofs.Judged.{told_by, unopened, untold}
use Rattle.krb_ap_requests.proofs.judge.check_authenticator.Goals as goal

pub returns-in_err-suite : goal.returns-in_err-suite
returns-in_err-suite c =
    let fits : SFits w32 c.args.usage = c.ranges.usage in
    let exit = err_from_is_err_and c.from_residual.result c.from_residual.ensures.1 in
    rw (exit.1, exit.2)
    (subst (λ (u : ℤ). IsJudged {T = Authenticated} (authenticated (cast_unsigned w32 u) c.args.part.now c.args.encrypted.now).gives (Err c.in_err-suite.field-0.0)) (to_z-of_z w32 c.args.usage fits)
    (unopened _ c.args.part.now c.args.encrypted.now c.in_err-suite.field-0.0 c.in_err-suite.ensures))

pub returns-in-Err : goal.returns-in-Err
returns-in-Err c =
    let fits : SFits w32 c.args.usage = c.ranges.usage in
    subst (λ (u : ℤ). IsJudged {T = Authenticated} (authenticated (cast_unsigned w32 u) c.args.part.now c.args.encrypted.now).gives (Err c.in-Err.refusal)) (to_z-of_z w32 c.args.usage fits)
    (untold _ c.args.part.now c.args.encrypted.now c.in_ok-suite.suite c.in_ok-suite.authenticator c.in-Err.refusal c.in_ok-suite.ensures c.in-Err.ensures)

pub returns-in-Ok : goal.returns-in-Ok
returns-in-Ok c =
    let fits : SFits w32 c.args.usage = c.ranges.usage in
    subst (λ (u : ℤ). (authenticated (cast_unsigned w32 u) c.args.part.now c.args.encrypted.now).gives
    (Ok (record { suite = c.in_ok-suite.suite; authenticator = c.in_ok-suite.authenticator; time = c.in-Ok.time }))) (to_z-of_z w32 c.args.usage fits)
    (told_by _ c.args.part.now c.args.encrypted.now c.in_ok-suite.suite c.in_ok-suite.authenticator c.in-Ok.time c.in_ok-suite.ensures c.in-Ok.ensures)
