use Rattle.std.proofs.Common.{◌≡◌, ◌∙◌, arith}
use Rattle.std.specs.Int.{div_ceil}
use Rattle.pkinit_messages.specs.Kdfs.{digest_size, kdf_octets}
use Rattle.pkinit_messages.proofs.CountedLemmas.{counted_digests-none, counted_digests-more}
use Rattle.pkinit_messages.proofs.agility.counted.kdf_octets.Goals as goal

pub loop-done-init : goal.loop-done-init
loop-done-init c = c.new-bytes.ensures.items ∙ counted_digests-none _ c.args.octets.now

pub loop-done-preserved : goal.loop-done-preserved
loop-done-preserved c = rw (counted_digests-more, ← c.loop-done.invariant) c.in_ok-push_digest.ensures

pub returns : goal.returns
unfolding kdf_octets
returns c =
    let ended : c.loop-done.done ≡ c.digest_count-done-end.result = omega arith in
    let count : c.loop-done.done ≡ div_ceil c.args.len (digest_size c.args.kdf) = ended ∙ c.digest_count-done-end.ensures.enough in
    rw (← count, ← c.loop-done.invariant) c.truncate.ensures.items
