use Rattle.std.proofs.Common.{◌≡◌, length}
use Rattle.pkinit_validation.specs.Principals.{first_element}
use Rattle.pkinit_validation.proofs.principals.first_element.Given as goal

abbrev pub invariant-names : goal.invariant-names
invariant-names l = first_element l.names ≡ first_element l.rest

abbrev pub decreases-names : goal.decreases-names
decreases-names l = length l.rest
