use Rattle.std.proofs.Common.{◌≡◌, ◌+◌, ◌-◌}
use Rattle.asn1_leaves.specs.Calendar.{days_of_months}
use Rattle.asn1_leaves.proofs.date.month_and_day.Given as goal

abbrev pub invariant-loop-month : goal.invariant-loop-month
invariant-loop-month l = days_of_months l.year (l.month - 1) + l.rest ≡ l.day_of_year
