use Rattle.block_ciphers.proofs.SeedLemmas.{parity_at}
use Rattle.block_ciphers.proofs.des3.seed.with_odd_parity.Goals as goal

pub returns : goal.returns
returns c = parity_at c.args.seven c.requires
