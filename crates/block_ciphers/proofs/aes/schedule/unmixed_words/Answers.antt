use Rattle.std.proofs.Common.{arith}
use Rattle.block_ciphers.proofs.Unmixed.{unmixed_words}
use Rattle.block_ciphers.proofs.aes.schedule.unmixed_words.Goals as goal

pub returns : goal.returns
returns c =
    unmixed_words c.args.words.now c.loop-i.unmixed c.args.rounds c.loop-i.i c.told-words c.loop-i.invariant.long c.requires (omega arith) c.loop-i.invariant.each
