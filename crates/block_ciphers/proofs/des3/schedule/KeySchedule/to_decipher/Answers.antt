use Rattle.block_ciphers.specs.Des.{part, round_keys}
use Rattle.block_ciphers.proofs.Schedules.{deciphers, strings-reverse}
use Rattle.block_ciphers.proofs.des3.schedule.KeySchedule.to_decipher.Goals as goal

pub returns : goal.returns
returns c =
    deciphers c.args.key.now _ (strings-reverse c.round_keys-first.result c.reverse.new.self (round_keys (part c.args.key.now 2)) c.reverse.ensures.after c.round_keys-first.ensures) c.round_keys-second.ensures
    (strings-reverse c.round_keys-third.result c.reverse-2.new.self (round_keys (part c.args.key.now 0)) c.reverse-2.ensures.after c.round_keys-third.ensures)
