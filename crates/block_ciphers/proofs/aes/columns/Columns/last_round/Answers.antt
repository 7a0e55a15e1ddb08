use Rattle.std.proofs.Common.{refl, ◌∙◌}
use Rattle.block_ciphers.specs.Bytes.{sum_of_bytes}
use Rattle.block_ciphers.specs.Aes.{sub_bytes, shift_rows}
use Rattle.block_ciphers.specs.Words.{bytes_of}
use Rattle.block_ciphers.proofs.WordBytes.{bytes_of-four}
use Rattle.block_ciphers.proofs.aes.columns.Columns.last_round.Goals as goal

pub returns : goal.returns
unfolding bytes_of sum_of_bytes sub_bytes shift_rows
returns c =
    bytes_of-four _ _ _ _ _ _ _ _ c.substituted_word.ensures c.substituted_word-2.ensures c.substituted_word-3.ensures c.substituted_word-4.ensures
    ∙ rw (c.to_be_bytes-a.ensures, c.to_be_bytes-b.ensures, c.to_be_bytes-c.ensures, c.to_be_bytes-d.ensures) refl
