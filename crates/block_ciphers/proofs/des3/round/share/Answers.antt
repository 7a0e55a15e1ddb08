use Rattle.block_ciphers.proofs.Boxes.{joined_at}
use Rattle.block_ciphers.proofs.des3.round.share.Goals as goal

pub returns : goal.returns
returns c = joined_at c.args.k c.sixth.result _ c.requires c.sixth.ensures.small c.sixth.ensures.bits
