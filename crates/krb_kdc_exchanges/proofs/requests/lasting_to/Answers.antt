use Rattle.std.proofs.Common.{◌∙◌, sym}
use Rattle.std.specs.Option.{option_map}
use Rattle.asn1_leaves.specs.GeneralizedTime.{seconds_of}
use Rattle.krb_kdc_exchanges.proofs.Spans.{lasting_given, lasting_refused}
use Rattle.krb_kdc_exchanges.proofs.requests.lasting_to.Goals as goal

pub returns-then-is_ended : goal.returns-then-is_ended
returns-then-is_ended c =
    lasting_refused c.args.lifetime c.args.moment (option_map seconds_of c.args.old) c.args.till (record { starttime = c.start_of-starttime.result; endtime = c.end_within-endtime.result })
    c.start_of-starttime.ensures c.end_within-endtime.ensures (sym c.is_ended.ensures ∙ c.if-is_ended.true)

pub returns : goal.returns
returns c =
    lasting_given c.args.lifetime c.args.moment (option_map seconds_of c.args.old) c.args.till (record { starttime = c.start_of-starttime.result; endtime = c.end_within-endtime.result })
    c.start_of-starttime.ensures c.end_within-endtime.ensures (sym c.is_ended.ensures ∙ c.if-is_ended.false)
