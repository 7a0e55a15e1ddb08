use Rattle.block_ciphers.proofs.Chaining.{UnchainsTo}
use Rattle.block_ciphers.specs.Schedule.{cipher_under}
use Rattle.block_ciphers.proofs.des3.decrypt.decrypt_chain.Given as goal

abbrev pub invariant-loop-i : goal.invariant-loop-i
invariant-loop-i l = UnchainsTo 8 (cipher_under l.keys) l.chain l.text.items l.last l.i
