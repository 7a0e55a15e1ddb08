use Rattle.std.proofs.Common.{◌∙◌}
use Rattle.block_ciphers.proofs.WordBytes.{bytes_of-four, four_words}
use Rattle.block_ciphers.proofs.aes.columns.Columns.of_bytes.Goals as goal

pub returns : goal.returns
returns c =
    bytes_of-four _ _ _ _ _ _ _ _ c.word_at.ensures c.word_at-2.ensures c.word_at-3.ensures c.word_at-4.ensures ∙ four_words c.args.block.now c.told-block
