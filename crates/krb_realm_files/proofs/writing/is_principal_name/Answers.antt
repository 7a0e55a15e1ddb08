use Rattle.std.proofs.Common.{arith}
use Rattle.std.proofs.lemmas.Grind.{common_steps}
use Rattle.krb_realm_files.proofs.writing.is_principal_name.Goals as goal

pub returns : goal.returns
returns c = grind (arith, common_steps)
