use Rattle.std.proofs.Common.{◌∙◌}
use Rattle.std.specs.Option.{option_map}
use Rattle.asn1_leaves.specs.GeneralizedTime.{seconds_of}
use Rattle.krb_kdc_exchanges.specs.Times.{end_of}
use Rattle.krb_kdc_exchanges.proofs.times.end_of.Goals as goal

pub returns : goal.returns
returns c =
    c.end_within.ensures ∙ (λ i. end_of (c.lifetime.ensures.value i) (seconds_of c.args.start) (option_map seconds_of c.args.old) (c.seconds.ensures.value i))
