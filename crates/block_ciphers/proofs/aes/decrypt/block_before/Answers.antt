use Rattle.std.proofs.Common.{◌∙◌, arith}
use Rattle.block_ciphers.proofs.Blocks.{before_cut, before_none}
use Rattle.block_ciphers.proofs.aes.decrypt.block_before.Goals as goal

pub returns-then-count-gt0 : goal.returns-then-count-gt0
returns-then-count-gt0 c = c.copy_from_slice.ensures.after ∙ before_cut c.args.chain.now c.args.count c.if-count-gt0.true

pub returns-else-count-gt0 : goal.returns-else-count-gt0
returns-else-count-gt0 c = before_none c.args.chain.now c.args.count (omega arith)
