use Rattle.std.proofs.Common.{◌≡◌, ◌<◌, length}
use Rattle.picky_asn1.specs.Integer.{integer_value}
use Rattle.picky_asn1.proofs.integer.shortest.Given as goal

abbrev pub invariant-loop-rest : goal.invariant-loop-rest
invariant-loop-rest l = (0 < length l.rest) × (integer_value l.rest ≡ integer_value l.octets)

abbrev pub decreases-loop-rest : goal.decreases-loop-rest
decreases-loop-rest l = length l.rest
