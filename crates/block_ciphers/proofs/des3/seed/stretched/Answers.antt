use Rattle.std.proofs.Common.{refl}
use Rattle.block_ciphers.proofs.SeedLemmas.{stretched_written}
use Rattle.block_ciphers.proofs.des3.seed.stretched.Goals as goal

pub returns : goal.returns
returns c =
    rw (c.with_odd_parity.ensures, c.with_odd_parity-2.ensures, c.with_odd_parity-3.ensures, c.with_odd_parity-4.ensures, c.with_odd_parity-5.ensures, c.with_odd_parity-6.ensures, c.with_odd_parity-7.ensures, c.with_odd_parity-8.ensures)
    (stretched_written c.args.seven.now _ c.requires refl)
