use Rattle.std.proofs.Common.{◌-◌, ◌*◌, length, take, drop, arith}
use Rattle.std.proofs.lemmas.List.{take_all, length-drop}
use Rattle.block_ciphers.proofs.Stealing.{last_filled}
use Rattle.block_ciphers.proofs.aes.encrypt.filled_block.Goals as goal

pub returns-then-rest-lt-AES_BLOCK_SIZE : goal.returns-then-rest-lt-AES_BLOCK_SIZE
returns-then-rest-lt-AES_BLOCK_SIZE c =
    let text = c.args.text.now in
    let i = c.args.i in
    let rest = drop (16 * c.args.i) text in
    rw c.copy_from_slice.ensures.after
    (last_filled text (take (length text - 16 * i) rest) i (take_all (length text - 16 * i) rest (omega (arith, length-drop (16 * i) text))) c.requires c.if-rest-lt-AES_BLOCK_SIZE.true)
