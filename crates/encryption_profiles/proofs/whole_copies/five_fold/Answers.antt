use Rattle.std.proofs.Common.{◌≡◌, ◌∙◌, ◌*◌, refl, arith}
use Rattle.encryption_profiles.specs.NFold.{number_at}
use Rattle.encryption_profiles.proofs.CopyLemmas.{five_fold-whole, number_at-lt, number_at-more_copies, number_at-next_copy}
use Rattle.encryption_profiles.proofs.CopiedBits.{number_at-none}
use Rattle.encryption_profiles.proofs.whole_copies.five_fold.Goals as goal

pub loop-init : goal.loop-init
loop-init c = record {
  copy_is = c.first_copy-copy.ensures;
  sum_is = rw (number_at-none c.args.constant.now 0) refl;
}

pub appended-sum-requires : goal.appended-sum-requires
appended-sum-requires c = omega (arith, c.loop.invariant.copy_is, number_at-lt c.args.constant.now (40 * c.loop.counter) 40)

pub next_copy-copy-requires : goal.next_copy-copy-requires
next_copy-copy-requires c = omega (arith, c.loop.invariant.copy_is, number_at-lt c.args.constant.now (40 * c.loop.counter) 40)

pub loop-preserved : goal.loop-preserved
loop-preserved c =
    let before = c.loop.invariant in
    let bytes = c.args.constant.now in
    record {
      copy_is = rw (number_at-next_copy bytes c.loop.counter c.requires, ← before.copy_is) c.next_copy-copy.ensures;
      sum_is = rw (number_at-more_copies bytes c.loop.counter, ← before.copy_is) (c.appended-sum.ensures (number_at bytes 0 (40 * c.loop.counter)) before.sum_is);
    }

pub returns-clause-folded : goal.returns-clause-folded
returns-clause-folded c =
    let end : c.loop.counter ≡ 16 = omega arith in
    c.to_be_bytes.ensures ∙ five_fold-whole c.args.constant.now c.loop.sum c.requires (rw end at c.loop.invariant.sum_is)
