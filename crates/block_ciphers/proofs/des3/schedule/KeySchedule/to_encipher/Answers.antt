use Rattle.block_ciphers.specs.Des.{part, round_keys}
use Rattle.block_ciphers.proofs.Schedules.{enciphers, strings-reverse}
use Rattle.block_ciphers.proofs.des3.schedule.KeySchedule.to_encipher.Goals as goal

pub returns : goal.returns
returns c =
    enciphers c.args.key.now _ c.round_keys-first.ensures (strings-reverse c.round_keys-second.result c.reverse.new.self (round_keys (part c.args.key.now 1)) c.reverse.ensures.after c.round_keys-second.ensures)
    c.round_keys-third.ensures
