use Rattle.std.proofs.Common.{◌≡◌, ◌++◌, drop}
use Rattle.block_ciphers.specs.Bits.{low_bits, strings}
use Rattle.block_ciphers.specs.Des.{cipher_function, rounds}
use Rattle.block_ciphers.proofs.des3.round.network.Given as goal

abbrev pub invariant-loop-key : goal.invariant-loop-key
invariant-loop-key l =
    rounds cipher_function (strings 48 (drop l.key-index l.keys)) (low_bits 32 l.left ++ low_bits 32 l.right)
    ≡ rounds cipher_function (strings 48 l.keys) (low_bits 32 l.initial.left ++ low_bits 32 l.initial.right)
