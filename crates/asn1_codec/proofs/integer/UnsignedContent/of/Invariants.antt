use Rattle.std.proofs.Common.{◌≡◌, ◌+◌, ◌≤◌, ◌++◌, length, drop}
use Rattle.asn1_codec.specs.Unsigned.{unsigned_content}
use Rattle.asn1_codec.proofs.integer.UnsignedContent.of.Given as goal

abbrev pub invariant-loop-rest : goal.invariant-loop-rest
invariant-loop-rest l = record {
  place : l.start ≤ 16;
  size : length l.octets ≡ 17;
  written : unsigned_content l.number ≡ unsigned_content l.rest ++ drop (l.start + 1) l.octets;
}

abbrev pub decreases-loop-rest : goal.decreases-loop-rest
decreases-loop-rest l = l.rest
