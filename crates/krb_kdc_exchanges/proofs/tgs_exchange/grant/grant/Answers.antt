use Rattle.std.proofs.Common.{◌≡◌, Err, ap, subst, ◌∙◌}
use Rattle.std.proofs.lemmas.Result.{err_from_is_err_and}
use Rattle.krb_kdc_exchanges.specs.Call.{call_of}
use Rattle.krb_kdc_exchanges.specs.Granting.{IsGranted}
use Rattle.krb_kdc_exchanges.specs.Options.{asked_options}
use Rattle.krb_kdc_exchanges.specs.TgsTable.{by_options, further_by, further_in}
use Rattle.krb_kdc_exchanges.specs.declared.options.AskedOptions.{AskedOptions}
use Rattle.krb_kdc_exchanges.proofs.Parts.{grant_passed, grant_refused}
use Rattle.krb_kdc_exchanges.proofs.tgs_exchange.grant.grant.Goals as goal

pub returns-in_err-check_options : goal.returns-in_err-check_options
returns-in_err-check_options c =
    let call = call_of c.args.call.now in
    let part = c.args.opened.now.part.now in
    let authenticated = c.args.opened.now.authenticated.now in
    let name = c.args.service_name.now in
    let service = c.args.service.now in
    let body = c.args.body.now in
    let own : AskedOptions = c.asked_options-asked.result in
    let asked : own ≡ asked_options call.settings.policy body.kdc_options.0 = c.asked_options-asked.ensures ∙ ap (λ p. asked_options p body.kdc_options.0) c.policy.ensures in
    let refusal = c.in_err-check_options.field-0.0 in
    let exit = err_from_is_err_and c.from_residual.result c.from_residual.ensures.1 in
    rw (exit.1, exit.2)
    (subst (λ (these : AskedOptions). IsGranted (further_by these call part authenticated name service body).gives (Err refusal)) asked
    (grant_refused {A = Unit {0}} (by_options call own part name) (λ _. further_in own.renews call part authenticated name service body) refusal c.in_err-check_options.ensures))

pub returns : goal.returns
returns c =
    let call = call_of c.args.call.now in
    let part = c.args.opened.now.part.now in
    let authenticated = c.args.opened.now.authenticated.now in
    let name = c.args.service_name.now in
    let service = c.args.service.now in
    let body = c.args.body.now in
    let own : AskedOptions = c.asked_options-asked.result in
    let asked : own ≡ asked_options call.settings.policy body.kdc_options.0 = c.asked_options-asked.ensures ∙ ap (λ p. asked_options p body.kdc_options.0) c.policy.ensures in
    subst (λ (these : AskedOptions). IsGranted (further_by these call part authenticated name service body).gives c.grant_in.result) asked
    (grant_passed {A = Unit {0}} (by_options call own part name) (λ _. further_in own.renews call part authenticated name service body) tt c.grant_in.result c.in_ok-check_options.ensures c.grant_in.ensures)
