use Rattle.std.proofs.Common.{◌≡◌, ◌++◌, length}
use Rattle.x509_fields.specs.DirectoryStrings.{utf16_units}
use Rattle.x509_fields.proofs.directory_string.units_of.Given as goal

abbrev pub invariant-units : goal.invariant-units
invariant-units l = utf16_units l.octets ≡ l.units.items ++ utf16_units l.rest

abbrev pub decreases-units : goal.decreases-units
decreases-units l = length l.rest
