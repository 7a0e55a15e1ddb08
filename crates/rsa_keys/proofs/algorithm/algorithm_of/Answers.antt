use Rattle.std.proofs.Common.{◌∙◌}
use Rattle.rsa_keys.proofs.Groups.{tables}
use Rattle.rsa_keys.proofs.algorithm.algorithm_of.Goals as goal

pub returns : goal.returns
returns c = c.table_of.ensures ∙ tables c.args.group
