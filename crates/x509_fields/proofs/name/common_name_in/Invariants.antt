use Rattle.std.proofs.Common.{◌≡◌, length}
use Rattle.x509_fields.specs.Parameters.{common_name_among}
use Rattle.x509_fields.proofs.name.common_name_in.Given as goal

abbrev pub invariant-attributes : goal.invariant-attributes
invariant-attributes l = common_name_among l.attributes ≡ common_name_among l.rest

abbrev pub decreases-attributes : goal.decreases-attributes
decreases-attributes l = length l.rest
