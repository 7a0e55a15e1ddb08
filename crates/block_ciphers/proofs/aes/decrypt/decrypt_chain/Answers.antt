use Rattle.std.proofs.Common.{◌≡◌, ◌+◌, ◌≤◌, ◌*◌, length, refl, ◌∙◌, arith}
use Rattle.block_ciphers.specs.Aes.{cipher, inv_cipher}
use Rattle.block_ciphers.specs.Bytes.{sum_of_bytes}
use Rattle.block_ciphers.specs.Chains.{block_at}
use Rattle.block_ciphers.specs.Words.{schedule_of}
use Rattle.block_ciphers.proofs.Rounds.{cut, cipher_pair}
use Rattle.block_ciphers.proofs.Chaining.{unchain_start, unchain_next, unchain_end, unchain-bytes}
use Rattle.block_ciphers.proofs.WordBytes.{IsBytes-bytes_of, length-schedule_of}
use Rattle.block_ciphers.proofs.aes.decrypt.decrypt_chain.Goals as goal

pub loop-i-init : goal.loop-i-init
loop-i-init c =
    let k = c.args.keys.now.keys in
    rw c.in_ok-text.ensures.items (unchain_start 16 (inv_cipher (schedule_of k.rounds k.words) k.rounds) c.args.chain.now)

pub loop-i-preserved : goal.loop-i-preserved
loop-i-preserved c =
    let k = c.args.keys.now.keys in
    let w = schedule_of k.rounds k.words in
    let n = k.rounds in
    let chain = c.args.chain.now in
    let block : c.copy_from_slice.new.self ≡ block_at 16 chain c.loop-i.i = c.copy_from_slice.ensures.after ∙ cut c.loop-i.i chain in
    let sum : c.add_blocks-sum.result ≡ sum_of_bytes 16 (inv_cipher w n (block_at 16 chain c.loop-i.i)) c.loop-i.last =
    c.add_blocks-sum.ensures ∙ rw (c.decrypt_block.ensures.is_inverse, block) refl in
    rw c.in_ok-extend_from_slice.ensures.items
    (unchain_next 16 (inv_cipher w n) chain c.loop-i.text.items c.loop-i.last c.loop-i.i (c.loop-i.i + 1) c.add_blocks-sum.result c.copy_from_slice.new.self c.loop-i.invariant sum block refl)

pub returns-clause-bytes : goal.returns-clause-bytes
returns-clause-bytes c =
    let k = c.args.keys.now.keys in
    let w = schedule_of c.args.keys.now.keys.rounds c.args.keys.now.keys.words in
    let n = k.rounds in
    let fits : 16 * n + 16 ≤ length w = omega (arith, length-schedule_of k.rounds k.words (omega arith)) in
    unchain-bytes 16 (cipher w n) (inv_cipher w n) (cipher_pair w (IsBytes-bytes_of _) n fits) c.args.chain.now c.loop-i.text.items c.loop-i.last c.loop-i.i (λ i. (c.type_inv.chain i).fits) c.loop-i.invariant (omega arith)

pub returns-clause-chained : goal.returns-clause-chained
returns-clause-chained c =
    let k = c.args.keys.now.keys in
    let w = schedule_of c.args.keys.now.keys.rounds c.args.keys.now.keys.words in
    let n = k.rounds in
    let fits : 16 * n + 16 ≤ length w = omega (arith, length-schedule_of k.rounds k.words (omega arith)) in
    unchain_end 16 (cipher w n) (inv_cipher w n) (cipher_pair w (IsBytes-bytes_of _) n fits) c.args.chain.now c.loop-i.text.items c.loop-i.last c.loop-i.i (λ i. (c.type_inv.chain i).fits) c.loop-i.invariant (omega arith)
