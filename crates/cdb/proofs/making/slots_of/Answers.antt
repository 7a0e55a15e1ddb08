use Rattle.std.proofs.Common.{◌≡◌, ◌+◌, ◌^◌, ◌<◌, ◌++◌, List, [], ap, append-nil, arith, drop, length, sym, ◌∙◌}
use Rattle.std.proofs.lemmas.List.{drop_all}
use Rattle.std.proofs.lemmas.List.Elements.{All-push}
use Rattle.cdb.specs.declared.records.Record.{Record}
use Rattle.cdb.specs.declared.slots.Slot.{Slot}
use Rattle.cdb.specs.Filling.{records_size, slots_from}
use Rattle.cdb.proofs.MakingLaws.{entries_sized, next_record, slots_more}
use Rattle.cdb.proofs.making.slots_of.Goals as goal

pub slot_of-requires : goal.slot_of-requires
slot_of-requires c =
    let place = c.loop-one.invariant.place in
    let whole = entries_sized c.args.records.now in
    omega (arith, place, whole)

pub size_of-at-requires : goal.size_of-at-requires
size_of-at-requires c =
    let place = c.loop-one.invariant.place in
    let whole = entries_sized c.args.records.now in
    let next = ap records_size (next_record c.args.records.now c.loop-one.one-index c.one-item.result c.loop-one-test.true c.one-item.is) in
    omega (arith, place, whole, next)

pub overflow_add-at : goal.overflow_add-at
overflow_add-at c =
    let place = c.loop-one.invariant.place in
    let whole = entries_sized c.args.records.now in
    let next = ap records_size (next_record c.args.records.now c.loop-one.one-index c.one-item.result c.loop-one-test.true c.one-item.is) in
    let size = c.size_of-at.ensures in
    omega (arith, place, whole, next, size)

pub loop-one-preserved : goal.loop-one-preserved
loop-one-preserved c =
    let next = next_record c.args.records.now c.loop-one.one-index c.one-item.result c.loop-one-test.true c.one-item.is in
    let sized = ap records_size next in
    let place = c.loop-one.invariant.place in
    let size = c.size_of-at.ensures in
    record {
      place = omega (arith, place, sized, size);
      made = rw c.in_ok-push.ensures.items
          (slots_more c.loop-one.slots.items c.loop-one.at _ c.one-item.result c.slot_of.result (drop c.loop-one.one-index c.args.records.now) _ (slots_from 2048 c.args.records.now) next c.slot_of.ensures.slot
          (ap (λ n. c.loop-one.at + n) c.size_of-at.ensures) c.loop-one.invariant.made);
      hashes = rw c.in_ok-push.ensures.items (All-push (λ (slot : Slot). slot.hash < 2 ^ 32) c.loop-one.slots.items c.slot_of.result c.loop-one.invariant.hashes c.slot_of.ensures.hash);
    }

pub returns-clause-slots : goal.returns-clause-slots
returns-clause-slots c =
    let none : drop c.loop-one.one-index c.args.records.now ≡ [] = drop_all c.loop-one.one-index c.args.records.now c.loop-one-test.false in
    sym (append-nil c.loop-one.slots.items) ∙ ap (λ (rest : List Record). c.loop-one.slots.items ++ slots_from c.loop-one.at rest) (sym none) ∙ c.loop-one.invariant.made

pub returns-clause-end : goal.returns-clause-end
returns-clause-end c =
    let none : drop c.loop-one.one-index c.args.records.now ≡ [] = drop_all c.loop-one.one-index c.args.records.now c.loop-one-test.false in
    let sized = ap records_size none in
    let place = c.loop-one.invariant.place in
    omega (arith, place, sized)
