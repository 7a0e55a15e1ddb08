use Rattle.std.proofs.Common.{◌≡◌, length}
use Rattle.x509_certificates.specs.ExtensionsHeld.{first_among}
use Rattle.pkinit_validation.specs.Principals.{element_held}
use Rattle.pkinit_validation.proofs.principals.first_element_held.Given as goal

abbrev pub invariant-extensions : goal.invariant-extensions
invariant-extensions l = first_among element_held l.extensions ≡ first_among element_held l.rest

abbrev pub decreases-extensions : goal.decreases-extensions
decreases-extensions l = length l.rest
