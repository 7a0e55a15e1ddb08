use Rattle.std.proofs.Common.{arith}
use Rattle.std.proofs.lemmas.Result.{IfOk-at_ok}
use Rattle.asn1_leaves.proofs.CalendarLemmas.{days_since_min-day_number}
use Rattle.asn1_leaves.proofs.date.day_count.Goals as goal

pub overflow_sub-result : goal.overflow_sub-result
overflow_sub-result c =
    omega (arith, days_since_min-day_number c.to_plain.result c.args.year c.args.month c.args.day c.days_since_min.result c.requires (rw c.to_plain.ensures (IfOk-at_ok _ c.unwrap-date.ensures c.new.ensures.value)) c.days_since_min.ensures.value)

pub returns-clause-value : goal.returns-clause-value
returns-clause-value c =
    omega (arith, days_since_min-day_number c.to_plain.result c.args.year c.args.month c.args.day c.days_since_min.result c.requires (rw c.to_plain.ensures (IfOk-at_ok _ c.unwrap-date.ensures c.new.ensures.value)) c.days_since_min.ensures.value)
