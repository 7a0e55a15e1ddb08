use Rattle.std.proofs.Common.{◌≡◌, length}
use Rattle.x509_certificates.specs.UseNames.{uses_among}
use Rattle.x509_certificates.proofs.key_usage_text.leading_of.Given as goal

abbrev pub invariant-numbers : goal.invariant-numbers
invariant-numbers l = uses_among l.usage.0 l.initial.numbers ≡ uses_among l.usage.0 l.rest

abbrev pub decreases-numbers : goal.decreases-numbers
decreases-numbers l = length l.rest
