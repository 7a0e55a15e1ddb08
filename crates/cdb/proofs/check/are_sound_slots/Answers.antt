use Rattle.std.proofs.Common.{◌+◌, ◌*◌, below_more}
use Rattle.std.proofs.lemmas.Result.{err_from_is_err_and}
use Rattle.cdb.specs.declared.format.TheConstants.{PAIR_SIZE}
use Rattle.cdb.specs.Check.{IsSoundSlot}
use Rattle.cdb.proofs.Judging.{judged_err, judged_no, judged_yes}
use Rattle.cdb.proofs.check.are_sound_slots.Goals as goal

pub returns-in_err-is_sound_slot : goal.returns-in_err-is_sound_slot
returns-in_err-is_sound_slot g c = λ bytes known.
    let p = err_from_is_err_and c.from_residual.result c.from_residual.ensures.1 in
    let slot = rw (c.from.ensures, c.from-in-loop-slot.ensures) at c.in_err-is_sound_slot.ensures bytes known in
    rw (p.1, p.2) (judged_err (g.F.ReadAt.fails c.args.file.now) c.in_err-is_sound_slot.field-0.0 _ _ _ ⊥ _ _ _ ⊥ slot
    (λ cut. (c.loop-slot.slot, c.loop-slot-test.true, cut)) (λ long. long))

pub returns-then-not-branch : goal.returns-then-not-branch
returns-then-not-branch g c = λ bytes known.
    let slot = rw (c.from.ensures, c.from-in-loop-slot.ensures) at c.in_ok-is_sound_slot.ensures bytes known in
    (c.loop-slot.slot, c.loop-slot-test.true, judged_no (g.F.ReadAt.fails c.args.file.now) _ _ _ _ ⊥ slot c.if-not-branch.true)

pub loop-slot-preserved : goal.loop-slot-preserved
loop-slot-preserved g c = λ bytes known.
    let slot = rw (c.from.ensures, c.from-in-loop-slot.ensures) at c.in_ok-is_sound_slot.ensures bytes known in
    let own = judged_yes (g.F.ReadAt.fails c.args.file.now) _ _ _ _ ⊥ slot c.if-not-branch.false in
    below_more (λ slot. IsSoundSlot (g.K.Keys.has c.args.keys.now) bytes (c.args.start + PAIR_SIZE * slot)) c.loop-slot.slot (c.loop-slot.invariant bytes known) own
