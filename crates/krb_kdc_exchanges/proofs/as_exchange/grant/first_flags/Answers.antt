use Rattle.std.proofs.Common.{ap, ◌∙◌}
use Rattle.krb_realm_accounts.specs.declared.policy.Policy.{Policy}
use Rattle.krb_kdc_exchanges.specs.Grants.{initial_flags}
use Rattle.krb_kdc_exchanges.proofs.as_exchange.grant.first_flags.Goals as goal

pub returns : goal.returns
returns c = c.initial_flags.ensures ∙ ap (λ (policy : Policy). initial_flags policy c.args.body.now.kdc_options.0 c.args.till) c.policy.ensures
