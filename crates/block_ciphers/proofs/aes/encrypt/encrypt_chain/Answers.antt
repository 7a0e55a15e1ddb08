use Rattle.std.proofs.Common.{◌≡◌, ◌+◌, length, refl, ap, ◌∙◌, arith, lit<}
use Rattle.block_ciphers.specs.Aes.{cipher}
use Rattle.block_ciphers.specs.Bytes.{sum_of_bytes}
use Rattle.block_ciphers.specs.Chains.{block_at, zero_filled}
use Rattle.block_ciphers.specs.Words.{schedule_of}
use Rattle.block_ciphers.proofs.Rounds.{length-cipher}
use Rattle.block_ciphers.proofs.Chaining.{chain_start, chain_next, chain_end}
use Rattle.block_ciphers.proofs.Stealing.{length-zero_filled}
use Rattle.block_ciphers.proofs.aes.encrypt.encrypt_chain.Goals as goal

pub loop-i-init : goal.loop-i-init
loop-i-init c =
    let k = c.args.keys.now in
    rw c.in_ok-chain.ensures.items (chain_start 16 (cipher (schedule_of k.rounds k.words) k.rounds) (zero_filled 16 c.args.text.now))

pub loop-i-preserved : goal.loop-i-preserved
loop-i-preserved c =
    let k = c.args.keys.now in
    let w = schedule_of k.rounds k.words in
    let n = k.rounds in
    let text = zero_filled 16 c.args.text.now in
    let sum : c.add_blocks-sum.result ≡ sum_of_bytes 16 (block_at 16 (zero_filled 16 c.args.text.now) c.loop-i.i) c.loop-i.last =
    c.add_blocks-sum.ensures ∙ rw c.filled_block.ensures refl in
    rw c.in_ok-extend_from_slice.ensures.items
    (chain_next 16 (cipher w n) text c.loop-i.chain.items c.loop-i.last c.loop-i.i (c.loop-i.i + 1) c.encrypt_block-last.result c.loop-i.invariant
    (ap length c.encrypt_block-last.ensures.is_cipher ∙ length-cipher w n c.add_blocks-sum.result)
    (c.encrypt_block-last.ensures.is_cipher ∙ ap (cipher w n) sum) refl)

pub returns : goal.returns
returns c =
    let k = c.args.keys.now in
    let text = zero_filled 16 c.args.text.now in
    chain_end 16 (cipher (schedule_of k.rounds k.words) k.rounds) text c.loop-i.chain.items c.loop-i.last c.loop-i.i c.loop-i.invariant
    (length-zero_filled 16 c.args.text.now (lit< tt) ∙ omega arith)
