use Rattle.std.proofs.Common.{◌∙◌}
use Rattle.block_ciphers.proofs.Boxes.{sixth_bits}
use Rattle.block_ciphers.proofs.des3.round.sixth.Goals as goal

pub returns-clause-bits : goal.returns-clause-bits
returns-clause-bits c = sixth_bits c.args.right c.args.key c.args.k c.from.result c.ranges.right.fits c.requires (c.from.ensures ∙ c.rotate_left.ensures)
