use Rattle.std.proofs.Common.{arith}
use Rattle.asn1_leaves.specs.Calendar.{day_number}
use Rattle.asn1_leaves.proofs.date.calendar_date.Goals as goal

pub returns-clause-number : goal.returns-clause-number
unfolding day_number
returns-clause-number c = omega (arith, c.year_of-year.ensures.from, c.month_and_day-month.ensures.month.0, c.month_and_day-month.ensures.day.0, c.month_and_day-month.ensures.number, c.days_before.ensures)
