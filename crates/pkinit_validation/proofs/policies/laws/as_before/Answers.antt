use Rattle.std.proofs.Common.{refl}
use Rattle.pkinit_validation.proofs.policies.laws.as_before.Goals as goal

pub returns-clause-offered : goal.returns-clause-offered
returns-clause-offered c = λ trust keys. refl

pub returns-clause-judged : goal.returns-clause-judged
returns-clause-judged c = λ trust keys call padata result. (λ given. given, λ given. given)
