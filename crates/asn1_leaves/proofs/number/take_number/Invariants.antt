use Rattle.std.proofs.Common.{◌≡◌, ◌<◌, take}
use Rattle.std.specs.Int.Digits.{digits_of}
use Rattle.asn1_leaves.proofs.NumberLemmas.{marked}
use Rattle.asn1_leaves.proofs.number.take_number.Given as goal

abbrev pub invariant-loop-i : goal.invariant-loop-i
invariant-loop-i l = record {
  front : take l.i l.octets ≡ marked (digits_of 128 l.number);
  begun : 0 < l.i → 0 < l.number;
}
