use Rattle.std.proofs.Common.{arith}
use Rattle.asn1_der.proofs.Elements.{following_none, following_digits, following_bound}
use Rattle.asn1_der.proofs.length.following.Goals as goal

pub returns-in-0-to-127-clause-count : goal.returns-in-0-to-127-clause-count
returns-in-0-to-127-clause-count c = (omega arith, λ n rest e. following_none n c.args.first rest (omega arith) e)

pub returns-in-129-to-136-clause-count : goal.returns-in-129-to-136-clause-count
returns-in-129-to-136-clause-count c = (omega arith, λ n rest e. let counted = (following_digits n c.args.first rest (omega arith) e).0 in omega arith)

pub returns-in_default-clause-count : goal.returns-in_default-clause-count
returns-in_default-clause-count c = λ n small rest e. let bound = following_bound n c.args.first rest small (omega arith) e in omega arith

pub returns-in_default-2-clause-count : goal.returns-in_default-2-clause-count
returns-in_default-2-clause-count c = λ n small rest e. let bound = following_bound n c.args.first rest small (omega arith) e in omega arith
