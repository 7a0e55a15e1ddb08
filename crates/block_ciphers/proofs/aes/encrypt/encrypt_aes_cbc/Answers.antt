use Rattle.std.proofs.Common.{arith}
use Rattle.block_ciphers.proofs.Rounds.{chained_by_aes}
use Rattle.block_ciphers.proofs.Stealing.{filled_already}
use Rattle.block_ciphers.proofs.aes.encrypt.encrypt_aes_cbc.Goals as goal

pub returns-clause-chained : goal.returns-clause-chained
returns-clause-chained c =
    let text = c.args.plaintext.now in
    chained_by_aes c.args.key.now _ text c.in_ok-chain.chain.items _ c.new-keys.ensures.words c.new-keys.ensures.rounds
    (rw (filled_already 16 c.args.plaintext.now (omega arith)) at c.in_ok-chain.ensures)
