use Rattle.std.proofs.Common.{◌≡◌, ◌-◌}
use Rattle.block_ciphers.specs.Aes.{inv_cipher, inv_rounds, inv_sub_bytes, inv_shift_rows}
use Rattle.block_ciphers.specs.Words.{block_of, schedule_of}
use Rattle.block_ciphers.proofs.aes.schedule.InverseSchedule.decrypt_block.Given as goal

-- what is left of the inverse cipher gives the outcome of the whole
abbrev pub invariant-loop-done : goal.invariant-loop-done
invariant-loop-done l =
    let w = schedule_of l.self.keys.rounds l.self.keys.words in
    inv_rounds w (inv_sub_bytes (inv_shift_rows (block_of l.state))) (l.last - l.done) ≡ inv_cipher w l.last l.block
