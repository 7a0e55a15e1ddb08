use Rattle.std.proofs.Common.{◌≡◌, ◌+◌, ◌-◌, sym, arith}
use Rattle.encryption_profiles.specs.Hmac.{hmac_of}
use Rattle.encryption_profiles.specs.Pbkdf2.{block_of}
use Rattle.encryption_profiles.proofs.Pbkdf2Lemmas.{iterate-none, iterate-more, sum_of_iterates-none, sum_of_iterates-more}
use Rattle.encryption_profiles.proofs.pbkdf2.block.Goals as goal

pub loop-init : goal.loop-init
loop-init g c = record {
  last_is = λ password inner outer. sym (iterate-none (hmac_of g.H.BlockHash.digest_of g.row.B password) c.code-last.result);
  sum_is = λ password inner outer. sym (sum_of_iterates-none (hmac_of g.H.BlockHash.digest_of g.row.B password) c.code-last.result);
}

pub loop-preserved : goal.loop-preserved
loop-preserved g c =
    let next : c.loop.counter + 1 - 1 ≡ c.loop.counter - 1 + 1 = omega arith in
    record {
      last_is = λ password inner outer. let step = c.code-next.ensures password inner outer in rw (next, iterate-more, ← c.loop.invariant.last_is password inner outer) step;
      sum_is = λ password inner outer. let step = c.code-next.ensures password inner outer in rw (next, sum_of_iterates-more, iterate-more, ← c.loop.invariant.last_is password inner outer, ← c.loop.invariant.sum_is password inner outer, ← step) c.add.ensures;
    }

pub returns : goal.returns
unfolding block_of
returns g c = λ password inner outer.
    let end : c.loop.counter ≡ c.args.rounds = omega arith in
    let sum = c.loop.invariant.sum_is password inner outer in
    let first = c.code-last.ensures password inner outer in
    rw (end, first, c.to_be_bytes.ensures) at sum
