use Rattle.pkinit_validation.proofs.WidenedLemmas.{are_judged_alike, is_widened}
use Rattle.pkinit_validation.proofs.policies.laws.auth_pack_is_extensible.Goals as goal

pub returns-clause-spelled : goal.returns-clause-spelled
returns-clause-spelled c = is_widened

pub returns-clause-judged : goal.returns-clause-judged
returns-clause-judged c = are_judged_alike

pub returns-clause-agreed : goal.returns-clause-agreed
returns-clause-agreed c = λ keys judging fields result given. given
