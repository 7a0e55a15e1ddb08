use Rattle.std.proofs.Common.{◌≡◌, ◌-◌, ◌/◌, ◌++◌, length, refl, arith}
use Rattle.block_ciphers.specs.Aes.{aes_cipher, aes_inverse}
use Rattle.block_ciphers.specs.Bytes.{IsBytes}
use Rattle.block_ciphers.specs.Chains.{swapped, block_count, IsBlockCipher, IsChained, IsCompleted}
use Rattle.block_ciphers.proofs.Rounds.{aes_block_cipher, chained_by_aes, completed_by_aes, IsAesKey-of_size}
use Rattle.block_ciphers.proofs.States.{IsBytes-take}
use Rattle.block_ciphers.proofs.Stealing.{opened, text_bytes}
use Rattle.block_ciphers.proofs.aes.decrypt.decrypt_stolen.Goals as goal

pub returns-clause-text : goal.returns-clause-text
returns-clause-text c =
    let key = c.args.key.now in
    let E = aes_cipher key in
    let D = aes_inverse key in
    let stolen_to = c.args.cipher_data.now in
    let pair : IsBlockCipher 16 E D = aes_block_cipher key (IsAesKey-of_size c.args.aes_size.now key c.requires.key_length) (λ i. (c.type_inv.key i).fits) in
    let text = c.in_ok-text.text.items in
    let ends = c.last_two_blocks-ends.result in
    let ended = c.last_two_blocks-ends.ensures.ended text c.in_ok-text.ensures.chained in
    let place : (length c.args.cipher_data.now - 1) / 16 - 1 ≡ block_count 16 (length c.args.cipher_data.now) - 2 = omega arith in
    let completed : IsCompleted 16 (block_count 16 (length c.args.cipher_data.now) - 2) E stolen_to ended.0 =
    rw place at (completed_by_aes key _ stolen_to ended.0 _ _ c.new-keys.ensures.words c.new-keys.ensures.rounds ended.1) in
    let chained : IsChained 16 E (text ++ ends.0 ++ ends.1) (swapped 16 ended.0) =
    chained_by_aes key _ (text ++ ends.0 ++ ends.1) (swapped 16 ended.0) _ c.new-keys.ensures.words c.new-keys.ensures.rounds ended.2 in
    let bytes : IsBytes (text ++ ends.0 ++ ends.1) = text_bytes text ends.0 ends.1 c.in_ok-text.ensures.bytes c.last_two_blocks-ends.ensures.bytes in
    rw (c.truncate.ensures.items, c.in_ok-extend_from_slice-2.ensures.items, c.in_ok-extend_from_slice.ensures.items)
    (opened 16 E D pair stolen_to ended.0 (swapped 16 ended.0) (text ++ ends.0 ++ ends.1) bytes (λ i. (c.type_inv.cipher_data i).fits) c.requires.more completed refl chained)

pub returns-clause-bytes : goal.returns-clause-bytes
returns-clause-bytes c =
    let ends = c.last_two_blocks-ends.result in
    rw (c.truncate.ensures.items, c.in_ok-extend_from_slice-2.ensures.items, c.in_ok-extend_from_slice.ensures.items)
    (IsBytes-take (length c.args.cipher_data.now) _ (text_bytes c.in_ok-text.text.items ends.0 ends.1 c.in_ok-text.ensures.bytes c.last_two_blocks-ends.ensures.bytes))
