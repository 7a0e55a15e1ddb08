use Rattle.std.proofs.Common.{refl}
use Rattle.block_ciphers.specs.Words.{bytes_of}
use Rattle.block_ciphers.proofs.aes.columns.Columns.bytes.Goals as goal

pub returns : goal.returns
unfolding bytes_of
returns c = rw (c.to_be_bytes-a.ensures, c.to_be_bytes-b.ensures, c.to_be_bytes-c.ensures, c.to_be_bytes-d.ensures) refl
