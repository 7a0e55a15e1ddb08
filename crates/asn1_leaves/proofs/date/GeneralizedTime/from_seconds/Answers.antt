use Rattle.std.proofs.Common.{arith}
use Rattle.asn1_leaves.proofs.TimeLemmas.{seconds_of-injective}
use Rattle.asn1_leaves.proofs.date.GeneralizedTime.from_seconds.Goals as goal

pub returns-clause-only : goal.returns-clause-only
returns-clause-only c = λ t e. seconds_of-injective t _ (omega (arith, e, c.calendar_date-year.ensures.number))
