use Rattle.std.proofs.Common.{◌≤◌, ◌+◌, ◌-◌, ◌*◌, length, take, drop, ap, ◌∙◌, refl, arith}
use Rattle.std.proofs.lemmas.List.{take_all, length-drop}
use Rattle.block_ciphers.specs.Aes.{cipher, inv_cipher}
use Rattle.block_ciphers.specs.Bytes.{IsBytes, sum_of_bytes}
use Rattle.block_ciphers.specs.Words.{schedule_of}
use Rattle.block_ciphers.proofs.Blocks.{before-bytes}
use Rattle.block_ciphers.proofs.Rounds.{cipher_pair}
use Rattle.block_ciphers.proofs.States.{IsBytes-append, IsBytes-take, IsBytes-drop, sum_of_bytes-block}
use Rattle.block_ciphers.proofs.Stealing.{ends_of}
use Rattle.block_ciphers.proofs.WordBytes.{IsBytes-bytes_of, length-schedule_of}
use Rattle.block_ciphers.proofs.aes.decrypt.last_two_blocks.Goals as goal

pub returns-clause-ended : goal.returns-clause-ended
returns-clause-ended c =
    λ p chained.
    let k = c.args.keys.now.keys in
    let w = schedule_of c.args.keys.now.keys.rounds c.args.keys.now.keys.words in
    let n = k.rounds in
    let fits : 16 * n + 16 ≤ length w = omega (arith, length-schedule_of k.rounds k.words (omega arith)) in
    let text = c.args.cipher_data.now in
    let m = c.args.front in
    ends_of (cipher w n) (inv_cipher w n) (cipher_pair w (IsBytes-bytes_of _) n fits) text m (λ i. (c.type_inv.cipher_data i).fits) c.requires.more c.requires.front
    _ c.decrypt_block-under.result _ c.block_before-last.result c.add_blocks.result c.add_blocks-2.result p
    c.block_before-last.ensures
    (c.decrypt_block-under.ensures.is_inverse ∙ ap (inv_cipher w n) c.block_before.ensures)
    (take_all (length text - (16 * m + 16)) (drop (16 * m + 16) text) (omega (arith, length-drop (16 * m + 16) text)))
    (rw c.copy_from_slice.ensures.after refl)
    (c.add_blocks.ensures ∙ ap (λ s. sum_of_bytes 16 s c.block_before-last.result) c.decrypt_block.ensures.is_inverse)
    c.add_blocks-2.ensures
    chained

pub returns-clause-bytes : goal.returns-clause-bytes
returns-clause-bytes c =
    let text = c.args.cipher_data.now in
    let text_bytes : IsBytes c.args.cipher_data.now = λ i. (c.type_inv.cipher_data i).fits in
    let m = c.args.front in
    let under = c.decrypt_block-under.result in
    let under_bytes : IsBytes c.decrypt_block-under.result = c.decrypt_block-under.ensures.bytes in
    let last_bytes : IsBytes c.block_before-last.result = rw c.block_before-last.ensures (before-bytes 16 text m text_bytes) in
    let rest = take (length text - (16 * m + 16)) (drop (16 * m + 16) text) in
    let rest_bytes : IsBytes (take (length c.args.cipher_data.now - (16 * m + 16)) (drop (16 * m + 16) c.args.cipher_data.now)) =
    IsBytes-take (length text - (16 * m + 16)) (drop (16 * m + 16) text) (IsBytes-drop (16 * m + 16) text text_bytes) in
    rw (c.add_blocks.ensures, c.add_blocks-2.ensures, c.copy_from_slice.ensures.after)
    (IsBytes-append _ _ (sum_of_bytes-block 16 _ _ c.decrypt_block.ensures.bytes last_bytes).bytes
    (sum_of_bytes-block 16 under _ under_bytes (IsBytes-append rest _ rest_bytes (IsBytes-drop (length rest) under under_bytes))).bytes)
