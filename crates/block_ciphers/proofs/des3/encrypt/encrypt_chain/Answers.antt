use Rattle.std.proofs.Common.{◌≡◌, ◌+◌, length, refl, ap, ◌∙◌, arith}
use Rattle.block_ciphers.specs.Bytes.{sum_of_bytes}
use Rattle.block_ciphers.specs.Chains.{block_at}
use Rattle.block_ciphers.proofs.Blocks.{sum_of_bytes-comm}
use Rattle.block_ciphers.proofs.Chaining.{chain_start, chain_next, chain_end}
use Rattle.block_ciphers.specs.Schedule.{cipher_under}
use Rattle.block_ciphers.proofs.Schedules.{cut, cipher_under-block}
use Rattle.block_ciphers.proofs.des3.encrypt.encrypt_chain.Goals as goal

pub loop-i-init : goal.loop-i-init
loop-i-init c = rw c.in_ok-chain.ensures.items (chain_start 8 (cipher_under c.args.keys.now) c.args.text.now)

pub loop-i-preserved : goal.loop-i-preserved
loop-i-preserved c =
    let E = cipher_under c.args.keys.now in
    let text = c.args.text.now in
    let sum : c.add_bytes-sum.result ≡ sum_of_bytes 8 (block_at 8 text c.loop-i.i) c.loop-i.last =
    c.add_bytes-sum.ensures ∙ ap (sum_of_bytes 8 c.loop-i.last) (cut c.loop-i.i text) ∙ sum_of_bytes-comm 8 c.loop-i.last (block_at 8 text c.loop-i.i) in
    rw c.in_ok-extend_from_slice.ensures.items
    (chain_next 8 E text c.loop-i.chain.items c.loop-i.last c.loop-i.i (c.loop-i.i + 1) c.cipher_block-last.result c.loop-i.invariant
    (ap length c.cipher_block-last.ensures ∙ (cipher_under-block c.args.keys.now c.add_bytes-sum.result).sized) (c.cipher_block-last.ensures ∙ ap E sum) refl)

pub returns : goal.returns
returns c =
    chain_end 8 (cipher_under c.args.keys.now) c.args.text.now c.loop-i.chain.items c.loop-i.last c.loop-i.i c.loop-i.invariant (omega arith)
