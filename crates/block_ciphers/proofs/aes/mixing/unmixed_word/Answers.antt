use Rattle.block_ciphers.proofs.Columns.{unmixed_column}
use Rattle.block_ciphers.proofs.aes.mixing.unmixed_word.Goals as goal

pub returns : goal.returns
returns c = unmixed_column c.args.key c.args.a c.args.b c.args.c c.args.d c.ranges.a.fits c.ranges.b.fits c.ranges.c.fits c.ranges.d.fits
