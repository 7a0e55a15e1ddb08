use Rattle.std.proofs.Common.{arith, bit_xor, length-set, ℕ}
use Rattle.std.proofs.lemmas.List.{get_or_default}
use Rattle.std.proofs.lemmas.List.Edits.{map_over_more}
use Rattle.encryption_profiles.proofs.mac.xored.Goals as goal

pub loop-byte-preserved : goal.loop-byte-preserved
loop-byte-preserved g c = record {
  same_length = omega (arith, length-set {A = ℕ}, c.loop-byte.invariant.same_length);
  bytes = map_over_more (λ b. bit_xor b c.args.pad) c.args.block.now c.loop-byte.byte-items c.loop-byte.byte-index _ (omega arith) c.loop-byte.invariant.bytes
      (get_or_default c.loop-byte.byte-items c.loop-byte.byte-index 0 _ (omega (arith, c.loop-byte.invariant.same_length)));
}
