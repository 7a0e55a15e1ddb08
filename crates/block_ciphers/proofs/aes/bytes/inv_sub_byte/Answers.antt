use Rattle.block_ciphers.proofs.Tables.{inv_substituted}
use Rattle.block_ciphers.proofs.aes.bytes.inv_sub_byte.Goals as goal

pub returns : goal.returns
returns c = inv_substituted c.args.byte c.ranges.byte.fits
