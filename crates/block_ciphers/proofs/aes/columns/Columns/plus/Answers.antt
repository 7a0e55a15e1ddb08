use Rattle.std.proofs.Common.{refl, ◌∙◌}
use Rattle.block_ciphers.specs.Bytes.{sum_of_bytes}
use Rattle.block_ciphers.specs.Words.{bytes_of}
use Rattle.block_ciphers.proofs.WordBytes.{bytes_of_sum, bytes_of-four}
use Rattle.block_ciphers.proofs.aes.columns.Columns.plus.Goals as goal

pub returns : goal.returns
unfolding bytes_of sum_of_bytes
returns c =
    let s = c.args.self in
    let k = c.args.key in
    bytes_of-four _ _ _ _ _ _ _ _ (bytes_of_sum s.a k.a) (bytes_of_sum s.b k.b) (bytes_of_sum s.c k.c) (bytes_of_sum s.d k.d) ∙ refl
