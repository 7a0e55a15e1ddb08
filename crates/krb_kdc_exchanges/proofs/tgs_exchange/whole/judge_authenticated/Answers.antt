use Rattle.std.proofs.Common.{Ok, Err, subst}
use Rattle.std.proofs.lemmas.Result.{err_from_is_err_and}
use Rattle.krb_crypto.specs.Keys.{KeyRecord}
use Rattle.krb_messages.specs.Refusals.{IsJudged}
use Rattle.krb_kdc_exchanges.specs.Call.{call_of}
use Rattle.krb_kdc_exchanges.proofs.Parts.{grant_passed, grant_refused}
use Rattle.krb_kdc_exchanges.specs.TgsTable.{covered, tgs_granted}
use Rattle.krb_kdc_exchanges.proofs.tgs_exchange.whole.judge_authenticated.Goals as goal

pub returns-in_err-check_covered : goal.returns-in_err-check_covered
returns-in_err-check_covered c =
    let call = call_of c.args.call.now in
    let authenticated = c.args.authenticated.now in
    let part = c.args.part.now in
    let refusal = c.in_err-check_covered.field-0.0 in
    let exit = err_from_is_err_and c.from_residual.result c.from_residual.ensures.1 in
    rw (exit.1, exit.2)
    (grant_refused {A = Unit {0}} (covered authenticated.suite part.key.0.key_value.0 authenticated.authenticator c.args.body.now) (λ _. tgs_granted call part authenticated c.args.body.now) refusal
    (subst (λ (key : KeyRecord). IsJudged (covered key.suite key.bytes authenticated.authenticator c.args.body.now).gives (Err refusal)) c.session_key-key.ensures c.in_err-check_covered.ensures))

pub returns : goal.returns
returns c =
    let call = call_of c.args.call.now in
    let authenticated = c.args.authenticated.now in
    let part = c.args.part.now in
    grant_passed {A = Unit {0}} (covered authenticated.suite part.key.0.key_value.0 authenticated.authenticator c.args.body.now) (λ _. tgs_granted call part authenticated c.args.body.now) tt c.judge_accounts.result
    (subst (λ (key : KeyRecord). (covered key.suite key.bytes authenticated.authenticator c.args.body.now).gives (Ok tt)) c.session_key-key.ensures c.in_ok-check_covered.ensures) c.judge_accounts.ensures
