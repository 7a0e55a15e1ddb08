use Rattle.std.proofs.Common.{◌≡◌, take}
use Rattle.block_ciphers.specs.Bits.{low_bits, permuted}
use Rattle.block_ciphers.proofs.des3.permute.permute.Given as goal

abbrev pub invariant-loop-place : goal.invariant-loop-place
invariant-loop-place l = low_bits l.place-index l.permuted ≡ permuted (take l.place-index l.table) (low_bits l.width l.string)
