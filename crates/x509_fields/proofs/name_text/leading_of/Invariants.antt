use Rattle.std.proofs.Common.{◌≡◌, length}
use Rattle.x509_fields.specs.NameText.{attributes_of}
use Rattle.x509_fields.proofs.name_text.leading_of.Given as goal

abbrev pub invariant-sets : goal.invariant-sets
invariant-sets l = attributes_of l.initial.sets ≡ attributes_of l.rest

abbrev pub decreases-sets : goal.decreases-sets
decreases-sets l = length l.rest
