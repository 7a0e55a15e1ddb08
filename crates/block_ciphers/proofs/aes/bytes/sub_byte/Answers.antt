use Rattle.block_ciphers.proofs.Tables.{substituted}
use Rattle.block_ciphers.proofs.aes.bytes.sub_byte.Goals as goal

pub returns : goal.returns
returns c = substituted c.args.byte c.ranges.byte.fits
