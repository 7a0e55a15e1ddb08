use Rattle.std.proofs.Common.{map, drop, inr, arith}
use Rattle.byte_streams.proofs.Exits.{at-exit}
use Rattle.negoex_messages.proofs.ElementsPut.{one-put, one-long, all-long, split-at, none-left, all-put}
use Rattle.negoex_messages.proofs.vectors.put_elements.Goals as goal

pub returns-in_err-place : goal.returns-in_err-place
returns-in_err-place g c =
    let t = g.T.Laid in
    at-exit _ _ _ _ c.from_residual.ensures.1
    (inr (
      c.in_err-place.ensures.0,
      all-long t.layout t.laws c.args.first (map t.view c.args.elements.now) (map t.view (drop c.loop-element.element-index c.args.elements.now))
          c.args.headers.now.items _ c.loop-element.put.items c.loop-element.invariant (omega (arith, c.in_err-place.ensures.1, c.len.ensures)),
    ))

pub returns-in_err-put : goal.returns-in_err-put
returns-in_err-put g c =
    let t = g.T.Laid in
    at-exit _ _ _ _ c.from_residual-in_err-put.ensures.1
    (one-long t.layout t.laws c.args.first _ (t.view c.element-item.result) (map t.view c.args.elements.now) (map t.view (drop c.loop-element.element-index c.args.elements.now)) _
    c.args.headers.now.items _ c.loop-element.put.items _ (split-at t.view c.args.elements.now c.loop-element.element-index c.element-item.result c.loop-element-test.true c.element-item.is)
    (omega (arith, c.in_ok-place.ensures.0, c.len.ensures)) c.loop-element.invariant c.in_err-put.ensures)

pub loop-element-preserved : goal.loop-element-preserved
loop-element-preserved g c =
    let t = g.T.Laid in
    one-put t.layout t.laws c.args.first _ (t.view c.element-item.result) (map t.view c.args.elements.now) (map t.view (drop c.loop-element.element-index c.args.elements.now)) _
    c.args.headers.now.items _ _ c.loop-element.put.items _ (split-at t.view c.args.elements.now c.loop-element.element-index c.element-item.result c.loop-element-test.true c.element-item.is)
    (omega (arith, c.in_ok-place.ensures.0, c.len.ensures)) c.in_ok-put.ensures c.loop-element.invariant

pub returns-in_err-place_behind : goal.returns-in_err-place_behind
returns-in_err-place_behind g c =
    let t = g.T.Laid in
    at-exit _ _ _ _ c.from_residual-in_err-place_behind.ensures.1
    (inr (
      c.in_err-place_behind.ensures.0,
      all-long t.layout t.laws c.args.first (map t.view c.args.elements.now) (map t.view (drop c.loop-element.element-index c.args.elements.now))
          c.args.headers.now.items _ c.loop-element.put.items c.loop-element.invariant (omega (arith, c.in_err-place_behind.ensures.1, c.len-2.ensures)),
    ))

pub returns : goal.returns
returns g c =
    let t = g.T.Laid in
    all-put t.layout t.laws c.args.first (map t.view c.args.elements.now) (map t.view (drop c.loop-element.element-index c.args.elements.now))
    c.args.headers.now.items c.loop-element.headers.items c.loop-element.put.items (none-left t.view c.args.elements.now c.loop-element.element-index (omega (arith, c.loop-element-test.false)))
    (omega (arith, c.in_ok-place_behind.ensures.0, c.in_ok-place_behind.ensures.1, c.len-2.ensures)) c.loop-element.invariant
