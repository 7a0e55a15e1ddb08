use Rattle.std.proofs.Common.{length, ap, inr, sym, ◌∙◌}
use Rattle.asn1_der.specs.Tree.{der}
use Rattle.asn1_codec.proofs.Chain.{at-exit}
use Rattle.asn1_codec.proofs.Writes.{wrote-as, wrote-nothing, notwrote-as, element-header, element-size, element-not_written, value-after, not_measured, wrote-measured, der-wrapped_some, der-wrapped_nothing, length-wrapped, empty_of_length}
use Rattle.asn1_codec.proofs.ser.Serializer.wrapped.Goals as goal

pub returns-in-Err : goal.returns-in-Err
returns-in-Err g c =
    let tree = g.T.Serialize.tree c.args.value.now in
    not_measured _ (der tree) _ _ _ _ _ c.in_ok-ready.ensures (length-wrapped c.args.tag tree) c.in-Err.ensures
    c.unmeasured.ensures.after c.unmeasured.ensures.fault

pub returns-then-count-eq0 : goal.returns-then-count-eq0
returns-then-count-eq0 g c =
    let tree = g.T.Serialize.tree c.args.value.now in
    let nothing = der-wrapped_nothing c.args.tag tree (empty_of_length (der tree) (sym c.in-Ok.ensures.0 ∙ c.if-count-eq0.true)) in
    (wrote-as _ _ _ _ (sym nothing) (wrote-nothing _ c.in_ok-ready.ensures), ap length (sym nothing), c.in-Ok.ensures.1)

pub returns-then-self : goal.returns-then-self
returns-then-self g c =
    let tree = g.T.Serialize.tree c.args.value.now in
    let some = der-wrapped_some c.args.tag tree (λ none. c.if-count-eq0.false (c.in-Ok.ensures.0 ∙ none)) in
    let unwritten = c.self.invariant c.if-self.true in (
      wrote-as _ _ _ _ (sym some) (element-header c.args.tag (der tree) _ _ _ _ c.in_ok-whole.ensures.0 (sym c.in-Ok.ensures.0)
          (wrote-measured (der tree) _ (ap (λ w. w.held) (sym c.self.view_is) ∙ unwritten.0) (ap (λ w. w.room) (sym c.self.view_is) ∙ unwritten.1) c.in_ok-whole.ensures.0.sound_after)),
      element-size c.args.tag (der tree) _ _ (sym c.in-Ok.ensures.0) c.in_ok-whole.ensures.1 ∙ ap length (sym some),
      c.in-Ok.ensures.1,
    )

pub returns-in_err-serialize : goal.returns-in_err-serialize
returns-in_err-serialize g c =
    let tree = g.T.Serialize.tree c.args.value.now in
    let some = der-wrapped_some c.args.tag tree (λ none. c.if-count-eq0.false (c.in-Ok.ensures.0 ∙ none)) in
    at-exit _ _ _ _ c.from_residual-in_err-serialize.ensures.1
    (inr (notwrote-as _ _ _ _ _ _ (sym some) (element-not_written _ c.args.tag (der tree) _ _ _ _ (sym c.in-Ok.ensures.0)
    (value-after _ _ _ _ _ _ _ c.in_ok-whole.ensures.0 c.in-Ok.ensures.1 c.in_err-serialize.ensures))))

pub returns : goal.returns
returns g c =
    let tree = g.T.Serialize.tree c.args.value.now in
    let some = der-wrapped_some c.args.tag tree (λ none. c.if-count-eq0.false (c.in-Ok.ensures.0 ∙ none)) in (
      wrote-as _ _ _ _ (sym some) (element-header c.args.tag (der tree) _ _ _ _ c.in_ok-whole.ensures.0 (sym c.in-Ok.ensures.0) c.in_ok-serialize.ensures.0),
      element-size c.args.tag (der tree) _ _ (sym c.in-Ok.ensures.0) c.in_ok-whole.ensures.1 ∙ ap length (sym some),
      c.in-Ok.ensures.1,
    )
