use Rattle.std.proofs.Common.{◌≡◌, ap, ◌∙◌}
use Rattle.krb_kdc_exchanges.specs.Options.{asked_options}
use Rattle.krb_kdc_exchanges.specs.TgsTable.{further_addresses}
use Rattle.krb_kdc_exchanges.specs.declared.options.AskedOptions.{AskedOptions}
use Rattle.krb_kdc_exchanges.proofs.tgs_exchange.grant.granted_addresses.Goals as goal

pub returns : goal.returns
returns c =
    let body = c.args.body.now in
    let own : AskedOptions = c.asked_options-asked.result in
    let asked : own ≡ asked_options c.args.call.now.settings.policy body.kdc_options.0 = c.asked_options-asked.ensures ∙ ap (λ p. asked_options p body.kdc_options.0) c.policy.ensures in
    c.further_addresses.ensures ∙ ap (λ (these : AskedOptions). further_addresses these body) asked
