use Rattle.pkinit_validation.proofs.JudgedParts.{attributes_part, signed_part}
use Rattle.pkinit_validation.proofs.laws.judged_is_part.Goals as goal

pub returns-clause-attributes : goal.returns-clause-attributes
returns-clause-attributes c = attributes_part

pub returns-clause-certificate : goal.returns-clause-certificate
returns-clause-certificate c = λ padata request content read is signed certificate. signed_part padata request content is signed read certificate
