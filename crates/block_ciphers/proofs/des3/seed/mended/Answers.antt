use Rattle.block_ciphers.proofs.SeedLemmas.{mended_weak, mended_other}
use Rattle.block_ciphers.proofs.des3.seed.mended.Goals as goal

pub returns-then-is_weak : goal.returns-then-is_weak
returns-then-is_weak c = mended_weak c.args.key c.is_weak.result c.is_weak.ensures c.if-is_weak.true

pub returns-else-is_weak : goal.returns-else-is_weak
returns-else-is_weak c = mended_other c.args.key c.is_weak.result c.is_weak.ensures c.if-is_weak.false
