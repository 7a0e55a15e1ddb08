use Rattle.std.proofs.Common.{◌≡◌, ◌++◌, length, take, drop, map, bit_xor}
use Rattle.encryption_profiles.proofs.mac.xored.Given as goal

abbrev pub invariant-loop-byte : goal.invariant-loop-byte
invariant-loop-byte g l = record {
  same_length : length l.byte-items ≡ length l.block;
  bytes : l.byte-items ≡ map (λ b. bit_xor b l.pad) (take l.byte-index l.block) ++ drop l.byte-index l.block;
}
