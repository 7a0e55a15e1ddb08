use Rattle.std.proofs.Common.{[], ap, arith, length, subst, sym, ◌∙◌}
use Rattle.cdb.specs.Filling.{full_count, IsFilled}
use Rattle.cdb.proofs.FillingLaws.{filled_none, filled_step, full_none, room_left}
use Rattle.cdb.proofs.filling.fill.Goals as goal

pub loop-slot-init : goal.loop-slot-init
loop-slot-init c =
    let none = ap full_count c.requires.cleared ∙ full_none (length c.args.cells.items) in
    record {
      filled = subst (IsFilled c.args.number []) (sym c.requires.cleared) (filled_none c.args.number (length c.args.cells.items));
      size = c.requires.size;
      room = omega (arith, none);
    }

pub put-requires : goal.put-requires
put-requires c = λ own.
    room_left c.args.number c.args.slots.now c.loop-slot.slot-index c.loop-slot.cells.items c.loop-slot-test.true c.loop-slot.invariant.size c.loop-slot.invariant.room own

pub loop-slot-preserved : goal.loop-slot-preserved
loop-slot-preserved c =
    let step = filled_step c.args.number c.args.slots.now c.loop-slot.slot-index c.loop-slot.cells.items c.put.new.cells.items c.loop-slot-test.true c.requires.rising
    c.loop-slot.invariant.filled c.loop-slot.invariant.size c.loop-slot.invariant.room c.put.ensures.own c.put.ensures.other in
    record { filled = step.0; size = step.1; room = step.2 }
