use Rattle.std.proofs.Common.{Bool, sym, ap, ◌∙◌}
use Rattle.krb_kdc_exchanges.specs.Renewals.{granted_till}
use Rattle.krb_kdc_exchanges.specs.TgsTable.{further_till}
use Rattle.krb_kdc_exchanges.proofs.tgs_exchange.renewing.further_till.Goals as goal

pub returns-then-renews : goal.returns-then-renews
returns-then-renews c =
    c.renew_till_of-old.ensures
    ∙ ap (λ (renews : Bool). further_till renews c.args.call.now.settings.policy.renewable_life c.args.part.now c.args.span c.args.body.now) (sym c.if-renews.true)

pub returns : goal.returns
returns c =
    c.granted_till.ensures
    ∙ (λ i. granted_till (c.policy.ensures i).renewable_life c.args.span (c.renew_till_of-old.ensures i) (c.further_asked.ensures i))
    ∙ ap (λ (renews : Bool). further_till renews c.args.call.now.settings.policy.renewable_life c.args.part.now c.args.span c.args.body.now) (sym c.if-renews.false)
