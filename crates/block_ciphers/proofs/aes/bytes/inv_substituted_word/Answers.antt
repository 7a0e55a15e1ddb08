use Rattle.std.proofs.Common.{refl}
use Rattle.block_ciphers.proofs.Tables.{inv_sub_byte-lt}
use Rattle.block_ciphers.proofs.WordBytes.{four-bytes, four_added}
use Rattle.block_ciphers.proofs.aes.bytes.inv_substituted_word.Goals as goal

pub returns : goal.returns
returns c =
    rw (c.from_be_bytes.ensures, c.inv_sub_byte.ensures, c.inv_sub_byte-2.ensures, c.inv_sub_byte-3.ensures, c.inv_sub_byte-4.ensures)
    (four_added c.args.key _ refl
    (four-bytes _ _ _ _ (inv_sub_byte-lt c.args.a c.ranges.a.fits) (inv_sub_byte-lt c.args.b c.ranges.b.fits) (inv_sub_byte-lt c.args.c c.ranges.c.fits) (inv_sub_byte-lt c.args.d c.ranges.d.fits)))
