use Rattle.block_ciphers.proofs.Columns.{unmixed_alone}
use Rattle.block_ciphers.proofs.WordBytes.{word-bytes}
use Rattle.block_ciphers.proofs.aes.mixing.unmixed_key.Goals as goal

pub returns : goal.returns
returns c =
    let bytes = word-bytes c.args.word in
    rw (c.unmixed_word.ensures, c.sub_byte.ensures, c.sub_byte-2.ensures, c.sub_byte-3.ensures, c.sub_byte-4.ensures, c.to_be_bytes-bytes.ensures)
    (unmixed_alone 0 _ _ _ _ (bytes 0) (bytes 1) (bytes 2) (bytes 3))
