use Rattle.std.proofs.Common.{◌≡◌, ◌+◌, refl, ◌∙◌, arith}
use Rattle.block_ciphers.specs.Bytes.{sum_of_bytes}
use Rattle.block_ciphers.specs.Chains.{block_at}
use Rattle.block_ciphers.proofs.Chaining.{unchain_start, unchain_next, unchain_end, unchain-bytes}
use Rattle.block_ciphers.specs.Schedule.{cipher_under}
use Rattle.block_ciphers.proofs.Schedules.{cut}
use Rattle.block_ciphers.proofs.des3.decrypt.decrypt_chain.Goals as goal

pub loop-i-init : goal.loop-i-init
loop-i-init c = rw c.in_ok-text.ensures.items (unchain_start 8 (cipher_under c.args.keys.now) c.args.chain.now)

pub loop-i-preserved : goal.loop-i-preserved
loop-i-preserved c =
    let D = cipher_under c.args.keys.now in
    let chain = c.args.chain.now in
    let block : c.copy_from_slice.new.self ≡ block_at 8 chain c.loop-i.i = c.copy_from_slice.ensures.after ∙ cut c.loop-i.i chain in
    let sum : c.add_bytes-sum.result ≡ sum_of_bytes 8 (D (block_at 8 chain c.loop-i.i)) c.loop-i.last =
    c.add_bytes-sum.ensures ∙ rw (c.cipher_block.ensures, block) refl in
    rw c.in_ok-extend_from_slice.ensures.items
    (unchain_next 8 D chain c.loop-i.text.items c.loop-i.last c.loop-i.i (c.loop-i.i + 1) c.add_bytes-sum.result c.copy_from_slice.new.self c.loop-i.invariant sum block refl)

pub returns-clause-bytes : goal.returns-clause-bytes
returns-clause-bytes c =
    λ E pair. unchain-bytes 8 E (cipher_under c.args.keys.now) pair c.args.chain.now c.loop-i.text.items c.loop-i.last c.loop-i.i (λ i. (c.type_inv.chain i).fits) c.loop-i.invariant (omega arith)

pub returns-clause-chained : goal.returns-clause-chained
returns-clause-chained c =
    λ E pair. unchain_end 8 E (cipher_under c.args.keys.now) pair c.args.chain.now c.loop-i.text.items c.loop-i.last c.loop-i.i (λ i. (c.type_inv.chain i).fits) c.loop-i.invariant (omega arith)
