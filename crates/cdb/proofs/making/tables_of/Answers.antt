use Rattle.std.proofs.Common.{◌≡◌, ◌+◌, ◌++◌, ap, arith, length, ◌∙◌}
use Rattle.cdb.specs.Database.{pair_octets, table_octets}
use Rattle.cdb.proofs.FillingLaws.{lower_more, lower_within}
use Rattle.cdb.proofs.MakingLaws.{tables_more, tables_none}
use Rattle.cdb.proofs.making.tables_of.Goals as goal

pub loop-number-init : goal.loop-number-init
loop-number-init c = rw (c.new-pointers.ensures.items, c.new-octets.ensures.items) (tables_none c.args.start c.args.slots.now)

pub overflow_add-start : goal.overflow_add-start
overflow_add-start c =
    let sized = c.loop-number.invariant.sized in
    let within = lower_within c.loop-number.number c.args.slots.now in
    let ok = c.loop-number.octets.ok.0 in
    let short = c.requires.short in
    omega (arith, sized, within, ok, short)

pub put_pointer-requires-clause-at : goal.put_pointer-requires-clause-at
put_pointer-requires-clause-at c =
    let sized = c.loop-number.invariant.sized in
    let within = lower_within c.loop-number.number c.args.slots.now in
    let ok = c.loop-number.octets.ok.0 in
    let short = c.requires.short in
    omega (arith, sized, within, ok, short)

pub put_pointer-requires-clause-count : goal.put_pointer-requires-clause-count
put_pointer-requires-clause-count c =
    let size = c.in_ok-cells.ensures.size in
    let more = lower_more c.loop-number.number c.args.slots.now in
    let within = lower_within (c.loop-number.number + 1) c.args.slots.now in
    let ok = c.in_ok-cells.cells.ok.0 in
    let short = c.requires.short in
    omega (arith, size, more, within, ok, short)

pub loop-number-preserved : goal.loop-number-preserved
loop-number-preserved c =
    let long = c.loop-number.octets.ok.0 in
    let many = c.in_ok-cells.cells.ok.0 in
    let at : c.args.start + c.len.result ≡ c.args.start + length c.loop-number.octets.items = omega (arith, long) in
    let count : c.len-in-loop-number.result ≡ length c.in_ok-cells.cells.items = omega (arith, many) in
    tables_more c.loop-number.number c.args.start c.args.slots.now c.in_ok-cells.cells.items c.loop-number.pointers.items c.loop-number.octets.items _ _ c.loop-number.invariant
    c.in_ok-cells.ensures.filled c.in_ok-cells.ensures.size
    (c.in_ok-put_pointer.ensures ∙ ap (λ n. c.loop-number.pointers.items ++ pair_octets n c.len-in-loop-number.result) at
    ∙ ap (λ n. c.loop-number.pointers.items ++ pair_octets (c.args.start + length c.loop-number.octets.items) n) count)
    (c.in_ok-put_slots.ensures ∙ ap (λ cells. c.loop-number.octets.items ++ table_octets cells) c.deref.ensures.value)
