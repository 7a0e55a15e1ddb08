use Rattle.block_ciphers.specs.Aes.{inv_cipher}
use Rattle.block_ciphers.specs.Words.{schedule_of}
use Rattle.block_ciphers.proofs.Chaining.{UnchainsTo}
use Rattle.block_ciphers.proofs.aes.decrypt.decrypt_chain.Given as goal

abbrev pub invariant-loop-i : goal.invariant-loop-i
invariant-loop-i l = UnchainsTo 16 (inv_cipher (schedule_of l.keys.keys.rounds l.keys.keys.words) l.keys.keys.rounds) l.chain l.text.items l.last l.i
