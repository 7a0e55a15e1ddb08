use Rattle.pkinit_validation.proofs.NoLessLemmas.{table_granted}
use Rattle.pkinit_validation.proofs.policies.laws.takes_no_less.Goals as goal

pub returns : goal.returns
returns c = table_granted
