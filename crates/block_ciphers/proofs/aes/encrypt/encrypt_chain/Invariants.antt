use Rattle.block_ciphers.specs.Aes.{cipher}
use Rattle.block_ciphers.specs.Chains.{zero_filled}
use Rattle.block_ciphers.specs.Words.{schedule_of}
use Rattle.block_ciphers.proofs.Chaining.{ChainsTo}
use Rattle.block_ciphers.proofs.aes.encrypt.encrypt_chain.Given as goal

abbrev pub invariant-loop-i : goal.invariant-loop-i
invariant-loop-i l = ChainsTo 16 (cipher (schedule_of l.keys.rounds l.keys.words) l.keys.rounds) (zero_filled 16 l.text) l.chain.items l.last l.i
