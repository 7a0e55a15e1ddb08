use Rattle.std.proofs.Common.{◌≡◌, ◌≢◌, ◌+◌, ◌/◌, ◌%◌, ◌<◌, ℕ, suc, ap, arith, below_more, get_or, length, subst, ◌∙◌}
use Rattle.cdb.specs.declared.format.TheConstants.{TABLES}
use Rattle.cdb.specs.Database.{slot_after}
use Rattle.cdb.specs.Filling.{empty}
use Rattle.cdb.specs.Find.{following}
use Rattle.cdb.proofs.DatabaseLaws.{next_slot}
use Rattle.cdb.proofs.FillingLaws.{not_all_full}
use Rattle.cdb.proofs.filling.free_cell.Goals as goal

pub loop-preserved : goal.loop-preserved
loop-preserved c =
    let some : 0 < length c.args.cells.now = omega arith in
    let counted : suc c.loop.counter ≡ c.loop.counter + 1 = omega arith in
    record {
      place = c.next-number.ensures.value ∙ ap (λ (n : ℕ). following n (length c.args.cells.now)) c.loop.invariant.place
          ∙ next_slot (c.args.hash / TABLES) c.loop.counter (length c.args.cells.now) some ∙ ap (λ (k : ℕ). (c.args.hash / TABLES + k) % length c.args.cells.now) counted;
      before = below_more (λ k. (slot_after c.args.cells.now c.args.hash k).at ≢ 0) c.loop.counter c.loop.invariant.before
          (subst (λ (n : ℕ). (get_or c.args.cells.now n empty).at ≢ 0) c.loop.invariant.place c.if-cells-number-eq0.false);
    }

pub returns-clause-free : goal.returns-clause-free
returns-clause-free c = absurd (not_all_full c.args.cells.now c.args.hash c.requires (λ k lt. c.loop.invariant.before k (omega (arith, lt, c.loop-test.false))))
