use Rattle.std.proofs.Common.{◌≡◌, ap, ◌∙◌}
use Rattle.krb_kdc_exchanges.specs.Options.{asked_options}
use Rattle.krb_kdc_exchanges.specs.TgsTable.{further_flags}
use Rattle.krb_kdc_exchanges.specs.declared.options.AskedOptions.{AskedOptions}
use Rattle.krb_kdc_exchanges.proofs.tgs_exchange.grant.granted_flags.Goals as goal

pub returns : goal.returns
returns c =
    let options = c.args.body.now.kdc_options.0 in
    let own : AskedOptions = c.asked_options-asked.result in
    let asked : own ≡ asked_options c.args.call.now.settings.policy options = c.asked_options-asked.ensures ∙ ap (λ p. asked_options p options) c.policy-policy.ensures in
    c.further_flags.ensures ∙ (λ i. further_flags (c.policy-policy.ensures i) (asked i) options c.args.part.now.flags.0 c.args.till)
