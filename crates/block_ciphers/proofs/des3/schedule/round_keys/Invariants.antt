use Rattle.std.proofs.Common.{◌≡◌, ◌<◌, ◌^◌, ◌++◌, length, take, drop}
use Rattle.block_ciphers.specs.Bits.{low_bits, strings}
use Rattle.block_ciphers.specs.Tables.{left_shifts}
use Rattle.block_ciphers.specs.Des.{keys_by_shifts, round_keys}
use Rattle.block_ciphers.proofs.des3.schedule.round_keys.Given as goal

abbrev pub invariant-loop-i : goal.invariant-loop-i
invariant-loop-i l =
    record {
      sized : length l.keys ≡ 16;
      first : l.c < 2 ^ 28;
      second : l.d < 2 ^ 28;
      so_far : strings 48 (take l.i l.keys) ++ keys_by_shifts (drop l.i left_shifts) (low_bits 28 l.c) (low_bits 28 l.d) ≡ round_keys l.key;
    }
