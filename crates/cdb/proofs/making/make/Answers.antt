use Rattle.std.proofs.Common.{◌++◌, ◌∙◌, List, ap, length, arith, subst, sym}
use Rattle.cdb.specs.declared.format.TheConstants.{HEADER_SIZE}
use Rattle.cdb.specs.declared.slots.Slot.{Slot}
use Rattle.cdb.specs.Filling.{AreHashes, AreRising}
use Rattle.cdb.proofs.MakingLaws.{entries_sized, length-slots_from, make_done, slots_rising}
use Rattle.cdb.proofs.making.make.Goals as goal

pub tables_of-requires-clause-short : goal.tables_of-requires-clause-short
tables_of-requires-clause-short c =
    let slots_are = c.deref.ensures.value ∙ c.in_ok-slots.ensures.slots in
    let sized = ap length slots_are ∙ length-slots_from HEADER_SIZE c.args.records.now in
    let whole = entries_sized c.args.records.now in
    let end = c.in_ok-slots.ensures.end in
    omega (arith, sized, whole, end)

pub tables_of-requires-clause-rising : goal.tables_of-requires-clause-rising
tables_of-requires-clause-rising c =
    subst (λ (s : List Slot). AreRising 0 s) (sym (c.deref.ensures.value ∙ c.in_ok-slots.ensures.slots)) (slots_rising 0 HEADER_SIZE c.args.records.now (omega arith))

pub returns : goal.returns
returns c =
    make_done c.args.records.now c.requires (subst AreHashes c.in_ok-slots.ensures.slots c.in_ok-slots.ensures.hashes) c.in_ok-slots.start c.deref.result.now
    c.in_ok-bytes.bytes.items c.in_ok-bytes.tables.items _ _ (c.deref.ensures.value ∙ c.in_ok-slots.ensures.slots) c.in_ok-slots.ensures.end c.in_ok-bytes.ensures
    c.in_ok-put_records.ensures (c.in_ok-extend_from_slice.ensures.items ∙ ap (λ o. c.put_records.new.bytes.items ++ o) c.deref-2.ensures.value)
