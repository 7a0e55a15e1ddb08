use Rattle.std.proofs.Common.{◌≡◌, ◌≤◌, length, ap, ◌∙◌, arith, lit<}
use Rattle.block_ciphers.specs.Aes.{aes_cipher}
use Rattle.block_ciphers.specs.Chains.{swapped, zero_filled, IsChained}
use Rattle.block_ciphers.proofs.Rounds.{chained_by_aes}
use Rattle.block_ciphers.proofs.Stealing.{stolen_short, stolen_long, length-zero_filled, written_back}
use Rattle.block_ciphers.proofs.aes.encrypt.encrypt_aes_cts.Goals as goal

pub returns-then-payload-le-AES_BLOCK_SIZE-clause-stolen : goal.returns-then-payload-le-AES_BLOCK_SIZE-clause-stolen
returns-then-payload-le-AES_BLOCK_SIZE-clause-stolen c =
    let text = c.args.payload.now in
    let x = c.in_ok-cipher.cipher.items in
    stolen_short 16 (aes_cipher c.args.key.now) text x (omega arith)
    (chained_by_aes c.args.key.now _ (zero_filled 16 text) x _ c.new-keys.ensures.words c.new-keys.ensures.rounds c.in_ok-cipher.ensures)

pub returns-clause-stolen : goal.returns-clause-stolen
returns-clause-stolen c =
    let E = aes_cipher c.args.key.now in
    let text = c.args.payload.now in
    let x = c.in_ok-cipher.cipher.items in
    let chained : IsChained 16 E (zero_filled 16 text) x =
    chained_by_aes c.args.key.now _ (zero_filled 16 text) x _ c.new-keys.ensures.words c.new-keys.ensures.rounds c.in_ok-cipher.ensures in
    let same : c.deref_mut.result.now ≡ x = c.deref_mut.ensures.value in
    let long : 32 ≤ length c.deref_mut.result.now = omega (arith, ap length same, chained.same_length, length-zero_filled 16 text (lit< tt)) in
    let turned = written_back c.in_ok-cipher.cipher.len c.swap_two_last_blocks.new.data x (omega (arith, ap length same)) (omega (arith, ap length same)) ∙ c.swap_two_last_blocks.ensures.swapped long ∙ ap (swapped 16) same in
    rw (c.truncate.ensures.items, turned) (stolen_long 16 E text x (lit< tt) (omega arith) chained)
