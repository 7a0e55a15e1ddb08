use Rattle.std.proofs.Common.{◌≡◌, ◌*◌, ◌≤◌, ◌∙◌, arith}
use Rattle.std.specs.Int.{div_ceil}
use Rattle.encryption_profiles.specs.Hmac.{hmac_of}
use Rattle.encryption_profiles.specs.Pbkdf2.{pbkdf2_of}
use Rattle.encryption_profiles.proofs.Pbkdf2Lemmas.{blocks_of-none, blocks_of-more}
use Rattle.encryption_profiles.proofs.Blocks.{enough_blocks}
use Rattle.encryption_profiles.proofs.pbkdf2.pbkdf2_hmac.Goals as goal

pub loop-done-init : goal.loop-done-init
loop-done-init g c = record {
  blocks = c.new-bytes.ensures.items ∙ blocks_of-none (hmac_of g.H.BlockHash.digest_of g.row.B c.args.password.now) c.args.salt.now c.args.rounds;
  sized = omega (arith, c.new-bytes.ensures.len);
}

pub loop-done-preserved : goal.loop-done-preserved
loop-done-preserved g c = record {
  blocks = rw (blocks_of-more, ← c.loop-done.invariant.blocks, ← c.block-block.ensures _ c.keyed-inner.ensures c.keyed-outer.ensures) c.in_ok-extend_from_slice.ensures.items;
  sized = omega (arith, c.in_ok-extend_from_slice.ensures.len, c.loop-done.invariant.sized);
}

pub returns-clause-derived : goal.returns-clause-derived
unfolding pbkdf2_of
returns-clause-derived g c =
    let count : c.loop-done.done ≡ div_ceil c.args.len g.row.N = omega (arith, c.div_ceil-done-end.ensures) in
    rw (← count, ← c.loop-done.invariant.blocks) c.truncate.ensures.items

pub returns-clause-sized : goal.returns-clause-sized
returns-clause-sized g c =
    let count : c.loop-done.done ≡ div_ceil c.args.len g.row.N = omega (arith, c.div_ceil-done-end.ensures) in
    let enough : c.args.len ≤ g.row.N * c.loop-done.done = rw count (enough_blocks c.args.len g.row.N g.met.H.BlockHash.some) in
    omega (arith, c.truncate.ensures.len, c.loop-done.invariant.sized, enough)
