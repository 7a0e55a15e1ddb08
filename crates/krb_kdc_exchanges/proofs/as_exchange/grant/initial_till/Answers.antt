use Rattle.std.proofs.Common.{None, ◌∙◌}
use Rattle.krb_kdc_exchanges.specs.Renewals.{granted_till}
use Rattle.krb_kdc_exchanges.proofs.as_exchange.grant.initial_till.Goals as goal

pub returns : goal.returns
returns c = c.granted_till.ensures ∙ (λ i. granted_till (c.policy.ensures i).renewable_life c.args.span None (c.asked_till.ensures i))
