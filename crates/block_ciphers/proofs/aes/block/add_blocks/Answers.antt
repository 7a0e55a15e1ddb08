use Rattle.std.proofs.Common.{refl}
use Rattle.block_ciphers.specs.Bytes.{sum_of_bytes}
use Rattle.block_ciphers.proofs.aes.block.add_blocks.Goals as goal

pub returns : goal.returns
unfolding sum_of_bytes
returns c = refl
