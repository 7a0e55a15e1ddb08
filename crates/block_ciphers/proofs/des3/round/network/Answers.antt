use Rattle.std.proofs.Common.{get_or, refl, sym, ◌∙◌, arith}
use Rattle.block_ciphers.proofs.Steps.{one_more_round, all_rounds}
use Rattle.block_ciphers.proofs.des3.round.network.Goals as goal

pub loop-key-preserved : goal.loop-key-preserved
loop-key-preserved c =
    sym (one_more_round c.args.keys.now c.loop-key.key-index (get_or c.args.keys.now c.loop-key.key-index 0) c.loop-key.left c.loop-key.right _ c.cipher_function.result (omega arith) refl c.cipher_function.ensures refl)
    ∙ c.loop-key.invariant

pub returns : goal.returns
returns c = all_rounds c.args.keys.now c.loop-key.key-index c.loop-key.left c.loop-key.right _ (omega arith) c.loop-key.invariant
