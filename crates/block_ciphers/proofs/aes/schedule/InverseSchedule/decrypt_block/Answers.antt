use Rattle.std.proofs.Common.{◌≡◌, ◌+◌, ◌-◌, ap, ◌∙◌, refl, arith, List, ℕ}
use Rattle.block_ciphers.specs.Aes.{inv_cipher, inv_rounds, inv_sub_bytes, inv_shift_rows}
use Rattle.block_ciphers.specs.Words.{block_of, schedule_of}
use Rattle.block_ciphers.proofs.Rounds.{inv_cipher_begun, inv_rounds_less, inv_rounds_none, cipher-inv_cipher, inv_cipher-block}
use Rattle.block_ciphers.proofs.Unmixed.{keyed, keyed_unmixed}
use Rattle.block_ciphers.proofs.WordBytes.{IsBytes-bytes_of, length-schedule_of}
use Rattle.block_ciphers.proofs.aes.schedule.InverseSchedule.decrypt_block.Goals as goal

pub loop-done-init : goal.loop-done-init
loop-done-init c =
    let k = c.args.self.now.keys in
    let w = schedule_of k.rounds k.words in
    ap (λ (s : List ℕ). inv_rounds w (inv_sub_bytes (inv_shift_rows s)) (k.rounds - 1))
    (c.plus-state.ensures ∙ keyed k.words k.rounds (omega arith) k.few c.args.block.now _ _ k.rounds (omega arith) c.of_bytes.ensures c.round_key.ensures)
    ∙ inv_cipher_begun w c.args.block.now k.rounds

pub loop-done-preserved : goal.loop-done-preserved
loop-done-preserved c =
    let k = c.args.self.now.keys in
    let w = schedule_of k.rounds k.words in
    let m = k.rounds - c.loop-done.done in
    let s = inv_sub_bytes (inv_shift_rows (block_of c.loop-done.state)) in
    ap (λ (s : List ℕ). inv_rounds w (inv_sub_bytes (inv_shift_rows s)) (k.rounds - (c.loop-done.done + 1)))
    (c.inv_round-state.ensures ∙ keyed_unmixed k.words k.rounds (omega arith) k.few c.args.self.now.unmixed s _ m c.args.self.now.middle (omega arith) (omega arith) c.round_key-in-loop-done.ensures)
    ∙ inv_rounds_less w s m (k.rounds - (c.loop-done.done + 1)) (omega arith)
    ∙ c.loop-done.invariant

pub returns-clause-is_inverse : goal.returns-clause-is_inverse
returns-clause-is_inverse c =
    let k = c.args.self.now.keys in
    let w = schedule_of k.rounds k.words in
    c.bytes.ensures ∙ c.inv_last_round.ensures ∙ keyed k.words k.rounds (omega arith) k.few _ _ _ 0 (omega arith) refl c.round_key-2.ensures
    ∙ inv_rounds_none w (inv_sub_bytes (inv_shift_rows (block_of c.loop-done.state))) (k.rounds - c.loop-done.done) (omega arith)
    ∙ c.loop-done.invariant

pub returns-clause-undone : goal.returns-clause-undone
returns-clause-undone c =
    let k = c.args.self.now.keys in
    let w = schedule_of c.args.self.now.keys.rounds c.args.self.now.keys.words in
    let is_inverse : c.bytes.result ≡ inv_cipher w k.rounds c.args.block.now = returns-clause-is_inverse c in
    rw is_inverse
    (cipher-inv_cipher w (IsBytes-bytes_of _) k.rounds (omega (arith, length-schedule_of k.rounds k.words (omega arith))) c.args.block.now (record { sized = c.told-block; bytes = c.fits-block }))

pub returns-clause-bytes : goal.returns-clause-bytes
returns-clause-bytes c =
    let k = c.args.self.now.keys in
    let w = schedule_of c.args.self.now.keys.rounds c.args.self.now.keys.words in
    let is_inverse : c.bytes.result ≡ inv_cipher w k.rounds c.args.block.now = returns-clause-is_inverse c in
    rw is_inverse
    (inv_cipher-block w (IsBytes-bytes_of _) k.rounds (omega (arith, length-schedule_of k.rounds k.words (omega arith))) c.args.block.now (record { sized = c.told-block; bytes = c.fits-block })).bytes
