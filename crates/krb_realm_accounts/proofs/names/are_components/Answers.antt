use Rattle.std.proofs.Common.{arith}
use Rattle.std.proofs.lemmas.Grind.{common_steps}
use Rattle.std.proofs.lemmas.List.{length-map}
use Rattle.std.proofs.lemmas.List.Folds.{list_all-map}
use Rattle.krb_realm_accounts.proofs.names.are_components.Goals as goal

pub returns : goal.returns
returns c = simp (length-map, list_all-map) (grind (arith, common_steps))
