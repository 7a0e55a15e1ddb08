use Rattle.krb_ap_requests.proofs.Judged.{authenticator_refused, authenticator_shown}
use Rattle.krb_ap_requests.proofs.judge.check_presented.Goals as goal

pub returns-in-Err : goal.returns-in-Err
returns-in-Err c =
    authenticator_refused c.args.request.now c.args.part c.in-Err.refusal (rw c.in-Err.is at c.check_authenticator-judged.ensures)

pub returns-in-Ok : goal.returns-in-Ok
returns-in-Ok c =
    authenticator_shown c.args.request.now c.args.part c.in-Ok.authenticated c.presented_with.result (rw c.in-Ok.is at c.check_authenticator-judged.ensures) c.presented_with.ensures
