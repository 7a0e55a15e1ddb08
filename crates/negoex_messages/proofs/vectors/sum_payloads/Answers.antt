use Rattle.std.proofs.Common.{ap, arith}
use Rattle.negoex_messages.specs.Vectors.{payloads}
use Rattle.negoex_messages.proofs.ElementsPut.{split-at, none-left}
use Rattle.negoex_messages.proofs.vectors.sum_payloads.Goals as goal

pub loop-element-preserved : goal.loop-element-preserved
loop-element-preserved g c =
    let t = g.T.Laid in
    let split = ap (payloads t.layout) (split-at t.view c.args.elements.now c.loop-element.element-index c.element-item.result c.loop-element-test.true c.element-item.is) in (
      omega (arith, c.saturating_add-sum.ensures),
      omega (arith, split, c.loop-element.invariant.1, c.payload_size.ensures, c.saturating_add-sum.ensures),
    )

pub returns : goal.returns
returns g c =
    let t = g.T.Laid in
    let none = ap (payloads t.layout) (none-left t.view c.args.elements.now c.loop-element.element-index (omega (arith, c.loop-element-test.false))) in
    omega (arith, none, c.loop-element.invariant.0, c.loop-element.invariant.1)
