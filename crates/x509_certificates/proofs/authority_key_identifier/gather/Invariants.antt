use Rattle.std.proofs.Common.{◌≡◌, length}
use Rattle.x509_certificates.specs.AuthorityFields.{nothing, gathered_onto}
use Rattle.x509_certificates.proofs.authority_key_identifier.gather.Given as goal

abbrev pub invariant-fields : goal.invariant-fields
invariant-fields l = gathered_onto l.made l.fields.items ≡ gathered_onto nothing l.fn.fields.items

abbrev pub decreases-fields : goal.decreases-fields
decreases-fields l = length l.fields.items
