use Rattle.std.proofs.Common.{ap, ◌∙◌}
use Rattle.block_ciphers.specs.Seeds.{mended}
use Rattle.block_ciphers.proofs.SeedLemmas.{key_written}
use Rattle.block_ciphers.proofs.KeyLaws.{random_to_key-odd, random_to_key-strong}
use Rattle.block_ciphers.proofs.des3.seed.random_to_key.Goals as goal

pub returns-clause-is_key : goal.returns-clause-is_key
returns-clause-is_key c =
    key_written c.args.seed.now c.mended-a.result c.mended-b.result c.mended-c.result (c.mended-a.ensures ∙ ap mended c.stretched.ensures) (c.mended-b.ensures ∙ ap mended c.stretched-2.ensures) (c.mended-c.ensures ∙ ap mended c.stretched-3.ensures)

pub returns-clause-odd : goal.returns-clause-odd
returns-clause-odd c = random_to_key-odd c.args.seed.now _ (returns-clause-is_key c)

pub returns-clause-strong : goal.returns-clause-strong
returns-clause-strong c = λ i few. random_to_key-strong c.args.seed.now _ i (returns-clause-is_key c) few
