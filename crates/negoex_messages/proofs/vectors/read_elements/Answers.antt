use Rattle.std.proofs.Common.{map, length, ◌+◌, ◌∙◌, ap, arith}
use Rattle.std.proofs.lemmas.List.{length-append}
use Rattle.byte_streams.proofs.Exits.{at-exit}
use Rattle.negoex_messages.proofs.ElementsRead.{read-there, wrong-there, wrong-read, one-read, read-inside, map-push, more-inside, few-inside}
use Rattle.negoex_messages.proofs.vectors.read_elements.Goals as goal

pub returns-in_err-element-clause-exact : goal.returns-in_err-element-clause-exact
returns-in_err-element-clause-exact g c =
    let t = g.T.Laid in
    at-exit _ _ _ _ c.from_residual.ensures.1
    (wrong-read t.layout c.args.message.now _ _ c.elements.left c.elements.place _ _ (omega arith) c.elements.invariant.0
    (wrong-there t.layout c.args.message.now c.cut_of.result.now c.elements.place c.width.result _ c.cut_of.ensures c.width.ensures c.in_err-element.ensures))

pub overflow_add-place : goal.overflow_add-place
overflow_add-place g c =
    let t = g.T.Laid in
    let read = read-there t.layout c.args.message.now c.cut_of.result.now c.elements.place c.width.result _ c.cut_of.ensures c.width.ensures c.in_ok-element.ensures in
    let inside = read-inside t.layout t.laws _ c.args.message.now c.elements.place (λ i. omega (arith, c.type_inv.message i)) read in
    omega (arith, inside, c.width-place.ensures)

pub elements-preserved : goal.elements-preserved
elements-preserved g c =
    let t = g.T.Laid in
    let read = read-there t.layout c.args.message.now c.cut_of.result.now c.elements.place c.width.result _ c.cut_of.ensures c.width.ensures c.in_ok-element.ensures in
    let inside = read-inside t.layout t.laws _ c.args.message.now c.elements.place (λ i. omega (arith, c.type_inv.message i)) read in
    let behind = ap (λ n. c.elements.place + n) c.width-place.ensures in
    let grown = ap length c.in-Ok.ensures.items ∙ length-append c.elements.elements.items _ in (
      one-read t.layout c.args.message.now _ _ 0 c.elements.left _ c.elements.place _ _ (map t.view c.elements.elements.items) _ (omega arith) (omega arith)
          behind (map-push t.view c.elements.elements.items _ _ c.in-Ok.ensures.items) read c.elements.invariant.0,
      more-inside (length c.elements.elements.items) _ _ c.elements.place _ t.layout.width _ grown behind t.laws.some inside c.elements.invariant.1,
    )

pub returns-clause-room : goal.returns-clause-room
returns-clause-room g c = few-inside _ _ _ _ c.elements.invariant.1
