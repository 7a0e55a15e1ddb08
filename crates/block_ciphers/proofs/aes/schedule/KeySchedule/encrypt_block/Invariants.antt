use Rattle.std.proofs.Common.{◌≡◌, ◌-◌}
use Rattle.block_ciphers.specs.Aes.{rounds}
use Rattle.block_ciphers.specs.Words.{block_of, schedule_of}
use Rattle.block_ciphers.proofs.aes.schedule.KeySchedule.encrypt_block.Given as goal

abbrev pub invariant-loop-n : goal.invariant-loop-n
invariant-loop-n l = block_of l.state ≡ rounds (schedule_of l.self.rounds l.self.words) l.block (l.n - 1)
