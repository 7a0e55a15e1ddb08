use Rattle.block_ciphers.proofs.Chaining.{ChainsTo}
use Rattle.block_ciphers.specs.Schedule.{cipher_under}
use Rattle.block_ciphers.proofs.des3.encrypt.encrypt_chain.Given as goal

abbrev pub invariant-loop-i : goal.invariant-loop-i
invariant-loop-i l = ChainsTo 8 (cipher_under l.keys) l.text l.chain.items l.last l.i
