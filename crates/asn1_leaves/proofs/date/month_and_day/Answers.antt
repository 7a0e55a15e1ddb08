use Rattle.std.proofs.Common.{◌≡◌, ℕ, ◌+◌, ◌-◌, ◌<◌, ◌≤◌, arith}
use Rattle.asn1_leaves.specs.Calendar.{days_of_months}
use Rattle.asn1_leaves.proofs.CalendarLemmas.{days_of_months-none, days_of_months-more, days_of_months-december}
use Rattle.asn1_leaves.proofs.date.month_and_day.Goals as goal

pub loop-month-init : goal.loop-month-init
loop-month-init c = omega (arith, days_of_months-none c.args.year)

pub loop-month-preserved : goal.loop-month-preserved
loop-month-preserved c =
    let month = c.loop-month.month in
    let same : month + 1 - 1 ≡ month = omega arith in
    rw same (omega (arith, days_of_months-more c.args.year month c.loop-month.auto.month, c.loop-month.invariant, c.month_length-size.ensures, c.if-rest-size.false))

-- in December fewer days are left than it has
december : (year month rest day : ℕ) → 12 ≤ month → month ≤ 12 → days_of_months year (month - 1) + rest ≡ day → day < days_of_months year 12 → rest < 31
december year month rest day low high is within =
    let last : month - 1 ≡ 11 = omega arith in
    omega (arith, rw last at is, within, days_of_months-december year)

pub overflow_cast-result-2 : goal.overflow_cast-result-2
overflow_cast-result-2 c =
    omega (arith, december c.args.year c.loop-month.month c.loop-month.rest c.args.day_of_year c.loop-month-test.false (omega (arith, c.loop-month.auto.month-end)) c.loop-month.invariant c.requires)

pub overflow_add-result-2 : goal.overflow_add-result-2
overflow_add-result-2 c =
    omega (arith, december c.args.year c.loop-month.month c.loop-month.rest c.args.day_of_year c.loop-month-test.false (omega (arith, c.loop-month.auto.month-end)) c.loop-month.invariant c.requires)

pub returns-clause-day : goal.returns-clause-day
returns-clause-day c =
    let few = december c.args.year c.loop-month.month c.loop-month.rest c.args.day_of_year c.loop-month-test.false (omega (arith, c.loop-month.auto.month-end)) c.loop-month.invariant c.requires in
    (omega arith, omega (arith, few))
