use Rattle.std.proofs.Common.{◌+◌, length, refl, ap, sym, ◌∙◌, arith}
use Rattle.asn1_der.specs.Tree.{der}
use Rattle.asn1_codec.proofs.Chain.{at-exit}
use Rattle.asn1_codec.proofs.Writes.{wrote-as, wrote-from, wrote-nothing, wrote-measured, not_measured, der-behind_nothing, length-behind, empty_of_length}
use Rattle.asn1_codec.proofs.Behinds.{behind-too_long, behind-header, behind-octet, behind-value, behind-wrote}
use Rattle.asn1_codec.proofs.ser.Serializer.wrapped_behind.Goals as goal

pub returns-in-Err : goal.returns-in-Err
returns-in-Err g c =
    let tree = g.T.Serialize.tree c.args.value.now in
    not_measured _ (der tree) _ _ _ _ _ c.in_ok-ready.ensures (length-behind c.args.tag c.args.lead tree) c.in-Err.ensures
    c.unmeasured.ensures.after c.unmeasured.ensures.fault

pub returns-then-count-eq0 : goal.returns-then-count-eq0
returns-then-count-eq0 g c =
    let tree = g.T.Serialize.tree c.args.value.now in
    let nothing = der-behind_nothing c.args.tag c.args.lead tree (empty_of_length (der tree) (sym c.in-Ok.ensures.0 ∙ c.if-count-eq0.true)) in
    (wrote-as _ _ _ _ (sym nothing) (wrote-nothing _ c.in_ok-ready.ensures), c.if-count-eq0.true ∙ ap length (sym nothing), c.in-Ok.ensures.1)

pub returns-in_err-inside : goal.returns-in_err-inside
returns-in_err-inside g c =
    let tree = g.T.Serialize.tree c.args.value.now in
    at-exit _ _ _ _ c.from_residual-in_err-inside.ensures.1
    (behind-too_long _ c.args.tag c.args.lead tree (1 + length (der tree)) c.in-Ok.ensures.1 (λ empty. c.if-count-eq0.false (c.in-Ok.ensures.0 ∙ empty)) refl _ _ _
    c.in_ok-ready.ensures (omega (arith, c.in_err-inside.ensures.1, c.in-Ok.ensures.0)) c.in_err-inside.ensures.2 c.in_err-inside.ensures.0)

pub returns-in_err-whole : goal.returns-in_err-whole
returns-in_err-whole g c =
    let tree = g.T.Serialize.tree c.args.value.now in
    at-exit _ _ _ _ c.from_residual-in_err-whole.ensures.1
    (behind-header _ c.args.tag c.args.lead tree c.in_ok-inside.inside c.in-Ok.ensures.1 (λ empty. c.if-count-eq0.false (c.in-Ok.ensures.0 ∙ empty))
    (c.in_ok-inside.ensures.0 ∙ ap (λ n. 1 + n) c.in-Ok.ensures.0) _ _ _ _ c.in_ok-inside.ensures.1 c.in_err-whole.ensures)

pub returns-in_err-put : goal.returns-in_err-put
returns-in_err-put g c =
    let tree = g.T.Serialize.tree c.args.value.now in
    at-exit _ _ _ _ c.from_residual-in_err-put.ensures.1
    (behind-octet _ c.args.tag c.args.lead tree c.in_ok-inside.inside c.in-Ok.ensures.1 (λ empty. c.if-count-eq0.false (c.in-Ok.ensures.0 ∙ empty))
    (c.in_ok-inside.ensures.0 ∙ ap (λ n. 1 + n) c.in-Ok.ensures.0) _ _ _ _
    (wrote-from _ _ _ _ c.in_ok-inside.ensures.1 c.in_ok-whole.ensures.0) c.in_err-put.ensures)

pub returns-then-self : goal.returns-then-self
returns-then-self g c =
    let tree = g.T.Serialize.tree c.args.value.now in
    let unwritten = c.self.invariant c.if-self.true in
    behind-wrote _ c.args.tag c.args.lead tree c.in_ok-inside.inside c.in-Ok.ensures.1 (λ empty. c.if-count-eq0.false (c.in-Ok.ensures.0 ∙ empty))
    (c.in_ok-inside.ensures.0 ∙ ap (λ n. 1 + n) c.in-Ok.ensures.0) _ _ _ _ _
    (wrote-from _ _ _ _ c.in_ok-inside.ensures.1 c.in_ok-whole.ensures.0) c.in_ok-whole.ensures.1 c.in_ok-put.ensures
    (wrote-measured (der tree) _ (ap (λ w. w.held) (sym c.self.view_is) ∙ unwritten.0) (ap (λ w. w.room) (sym c.self.view_is) ∙ unwritten.1) c.in_ok-put.ensures.sound_after)

pub returns-in_err-serialize : goal.returns-in_err-serialize
returns-in_err-serialize g c =
    let tree = g.T.Serialize.tree c.args.value.now in
    at-exit _ _ _ _ c.from_residual-in_err-serialize.ensures.1
    (behind-value _ c.args.tag c.args.lead tree c.in_ok-inside.inside c.in-Ok.ensures.1 (λ empty. c.if-count-eq0.false (c.in-Ok.ensures.0 ∙ empty))
    (c.in_ok-inside.ensures.0 ∙ ap (λ n. 1 + n) c.in-Ok.ensures.0) _ _ _ _ _
    (wrote-from _ _ _ _ c.in_ok-inside.ensures.1 c.in_ok-whole.ensures.0) c.in_ok-put.ensures c.in_err-serialize.ensures)

pub returns : goal.returns
returns g c =
    let tree = g.T.Serialize.tree c.args.value.now in
    behind-wrote _ c.args.tag c.args.lead tree c.in_ok-inside.inside c.in-Ok.ensures.1 (λ empty. c.if-count-eq0.false (c.in-Ok.ensures.0 ∙ empty))
    (c.in_ok-inside.ensures.0 ∙ ap (λ n. 1 + n) c.in-Ok.ensures.0) _ _ _ _ _
    (wrote-from _ _ _ _ c.in_ok-inside.ensures.1 c.in_ok-whole.ensures.0) c.in_ok-whole.ensures.1 c.in_ok-put.ensures c.in_ok-serialize.ensures.0
