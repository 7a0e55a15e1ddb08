use Rattle.std.proofs.Common.{◌≡◌, length}
use Rattle.x509_fields.specs.Parameters.{first_common_name}
use Rattle.x509_fields.proofs.name.Name.find_common_name.Given as goal

abbrev pub invariant-sets : goal.invariant-sets
invariant-sets l = first_common_name l.self ≡ first_common_name l.rest

abbrev pub decreases-sets : goal.decreases-sets
decreases-sets l = length l.rest
