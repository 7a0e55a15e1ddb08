use Rattle.block_ciphers.proofs.Turns.{turned_half}
use Rattle.block_ciphers.proofs.des3.schedule.turn.Goals as goal

pub returns-clause-turned : goal.returns-clause-turned
returns-clause-turned c = turned_half c.args.places c.args.string c.requires.small c.requires.some c.requires.few
