use Rattle.std.proofs.Common.{List, refl, subst}
use Rattle.cdb.specs.declared.slots.Slot.{Slot}
use Rattle.cdb.specs.Filling.{IsFree}
use Rattle.cdb.proofs.filling.put.Goals as goal

pub returns-clause-own : goal.returns-clause-own
returns-clause-own c = λ own.
    (c.free_cell-free.result, subst (λ (cells : List Slot). IsFree cells c.args.slot.hash c.free_cell-free.result) c.deref.ensures.value c.free_cell-free.ensures.free, refl)
