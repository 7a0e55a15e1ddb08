use Rattle.std.proofs.Common.{◌≡◌, ◌∙◌, refl, arith}
use Rattle.block_ciphers.specs.Aes.{rounds, cipher}
use Rattle.block_ciphers.specs.Words.{schedule_of}
use Rattle.block_ciphers.proofs.Rounds.{ciphered_by_aes, rounds_more, cipher_written, inv_cipher-cipher}
use Rattle.block_ciphers.proofs.Unmixed.{keyed}
use Rattle.block_ciphers.proofs.WordBytes.{IsBytes-bytes_of, length-schedule_of}
use Rattle.block_ciphers.proofs.aes.schedule.KeySchedule.encrypt_block.Goals as goal

pub loop-n-init : goal.loop-n-init
unfolding rounds
loop-n-init c =
    let k = c.args.self.now in
    c.plus-state.ensures ∙ keyed k.words k.rounds (omega arith) k.few c.args.block.now _ _ 0 (omega arith) c.of_bytes.ensures c.round_key.ensures

pub loop-n-preserved : goal.loop-n-preserved
loop-n-preserved c =
    let k = c.args.self.now in
    c.round-state.ensures ∙ keyed k.words k.rounds (omega arith) k.few _ _ _ c.loop-n.n (omega arith) refl c.round_key-in-loop-n.ensures
    ∙ rounds_more (schedule_of k.rounds k.words) c.args.block.now _ c.loop-n.n (omega arith) c.loop-n.invariant

pub returns-clause-is_cipher : goal.returns-clause-is_cipher
returns-clause-is_cipher c =
    let k = c.args.self.now in
    c.bytes.ensures ∙ c.last_round.ensures ∙ keyed k.words k.rounds (omega arith) k.few _ _ _ k.rounds (omega arith) refl c.round_key-2.ensures
    ∙ cipher_written (schedule_of k.rounds k.words) c.args.block.now _ c.loop-n.n k.rounds (omega arith) c.loop-n.invariant

pub returns-clause-undone : goal.returns-clause-undone
returns-clause-undone c =
    let k = c.args.self.now in
    let w = schedule_of c.args.self.now.rounds c.args.self.now.words in
    let is_cipher : c.bytes.result ≡ cipher w k.rounds c.args.block.now = returns-clause-is_cipher c in
    rw is_cipher
    (inv_cipher-cipher w (IsBytes-bytes_of _) k.rounds (omega (arith, length-schedule_of k.rounds k.words (omega arith))) c.args.block.now (record { sized = c.told-block; bytes = c.fits-block }))

pub returns-clause-under : goal.returns-clause-under
returns-clause-under c = λ key made.
    returns-clause-is_cipher c ∙ ciphered_by_aes key _ c.args.block.now _ made.words made.rounds
