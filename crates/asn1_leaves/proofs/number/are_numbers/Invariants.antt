use Rattle.std.proofs.Common.{length}
use Rattle.asn1_leaves.specs.ObjectIdentifier.{AreNumbers}
use Rattle.asn1_leaves.proofs.number.are_numbers.Given as goal

abbrev pub invariant-loop-rest : goal.invariant-loop-rest
invariant-loop-rest l = record {
  whole : AreNumbers l.rest → AreNumbers l.octets;
  rest : AreNumbers l.octets → AreNumbers l.rest;
}

abbrev pub decreases-loop-rest : goal.decreases-loop-rest
decreases-loop-rest l = length l.rest
