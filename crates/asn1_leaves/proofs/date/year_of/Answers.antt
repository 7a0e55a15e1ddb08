use Rattle.std.proofs.Common.{refl, arith}
use Rattle.asn1_leaves.proofs.CalendarLemmas.{year_before, year_itself}
use Rattle.asn1_leaves.proofs.date.year_of.Goals as goal

pub returns-then-days-days_before : goal.returns-then-days-days_before
returns-then-days-days_before c =
    let found = year_before c.args.days _ refl (omega (arith, c.if-days-days_before.true, c.days_before.ensures)) in
    record { year = omega (arith, c.requires); from = found.0; before = found.1 }

pub returns : goal.returns
returns c = record {
  year = omega (arith, c.requires, c.if-days-days_before.false, c.days_before.ensures);
  from = omega (arith, c.if-days-days_before.false, c.days_before.ensures);
  before = year_itself c.args.days _ refl;
}
