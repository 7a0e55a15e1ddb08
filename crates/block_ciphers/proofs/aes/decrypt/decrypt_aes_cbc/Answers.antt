use Rattle.std.proofs.Common.{◌/◌, length, arith}
use Rattle.block_ciphers.specs.Aes.{aes_cipher, aes_inverse}
use Rattle.block_ciphers.specs.Bytes.{IsBytes}
use Rattle.block_ciphers.proofs.Rounds.{chained_by_aes, aes_block_cipher, IsAesKey-of_size}
use Rattle.block_ciphers.proofs.Chaining.{chained_text}
use Rattle.block_ciphers.proofs.aes.decrypt.decrypt_aes_cbc.Goals as goal

pub returns-clause-chained : goal.returns-clause-chained
returns-clause-chained c =
    chained_by_aes c.args.key.now _ c.in_ok-text.text.items c.args.cipher_data.now _ c.new-keys.ensures.words c.new-keys.ensures.rounds c.in_ok-text.ensures.chained

pub returns-clause-undone : goal.returns-clause-undone
returns-clause-undone c =
    aes_block_cipher c.args.key.now (IsAesKey-of_size c.args.aes_size.now c.args.key.now c.in_ok-check_key_length.ensures.sized) (λ i. (c.type_inv.key i).fits)

pub returns-clause-only : goal.returns-clause-only
returns-clause-only c =
    λ q bytes chained.
    let key = c.args.key.now in
    let data_bytes : IsBytes c.args.cipher_data.now = λ i. (c.type_inv.cipher_data i).fits in
    chained_text 16 (aes_cipher key) (aes_inverse key) (returns-clause-undone c) q c.in_ok-text.text.items c.args.cipher_data.now (length c.args.cipher_data.now / 16) bytes c.in_ok-text.ensures.bytes data_bytes (omega arith) chained (returns-clause-chained c)
