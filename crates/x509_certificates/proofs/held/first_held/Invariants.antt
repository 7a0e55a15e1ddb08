use Rattle.std.proofs.Common.{◌≡◌, length}
use Rattle.x509_certificates.specs.ExtensionsHeld.{first_among}
use Rattle.x509_certificates.proofs.held.first_held.Given as goal

abbrev pub invariant-extensions : goal.invariant-extensions
invariant-extensions g l = first_among g.T.Held.held_by l.extensions ≡ first_among g.T.Held.held_by l.rest

abbrev pub decreases-extensions : goal.decreases-extensions
decreases-extensions g l = length l.rest
