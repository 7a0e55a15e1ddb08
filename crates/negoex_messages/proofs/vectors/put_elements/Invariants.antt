use Rattle.std.proofs.Common.{map, drop}
use Rattle.negoex_messages.proofs.ElementsPut.{ArePut}
use Rattle.negoex_messages.proofs.vectors.put_elements.Given as goal

abbrev pub invariant-loop-element : goal.invariant-loop-element
invariant-loop-element g l =
    let t = g.T.Laid in
    ArePut t.layout l.first (map t.view l.elements) (map t.view (drop l.element-index l.elements)) l.initial.headers.items l.headers.items l.put.items
