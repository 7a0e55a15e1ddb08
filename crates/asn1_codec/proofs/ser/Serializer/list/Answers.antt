use Rattle.std.proofs.Common.{inr, ap, sym, ◌∙◌, arith}
use Rattle.asn1_der.specs.Tree.{ders}
use Rattle.asn1_der.proofs.Elements.{length-element}
use Rattle.asn1_codec.proofs.Chain.{at-exit}
use Rattle.asn1_codec.proofs.Writes.{element-header, element-size, element-not_written, fields-after, not_measured, wrote-measured}
use Rattle.asn1_codec.proofs.ser.Serializer.list.Goals as goal

pub returns-in-Err : goal.returns-in-Err
returns-in-Err g c =
    let content = ders (g.F.WriteFields.trees c.args.fields.now) in
    not_measured _ content _ _ _ _ _ c.in_ok-ready.ensures (omega (arith, length-element c.args.tag content)) c.in-Err.ensures
    c.unmeasured.ensures.after c.unmeasured.ensures.fault

pub returns-then-self : goal.returns-then-self
returns-then-self g c =
    let content = ders (g.F.WriteFields.trees c.args.fields.now) in
    let unwritten = c.self.invariant c.if-self.true in (
      element-header c.args.tag content _ _ _ _ c.in_ok-whole.ensures.0 (sym c.in-Ok.ensures.0)
          (wrote-measured content _ (ap (λ w. w.held) (sym c.self.view_is) ∙ unwritten.0) (ap (λ w. w.room) (sym c.self.view_is) ∙ unwritten.1) c.in_ok-whole.ensures.0.sound_after),
      element-size c.args.tag content _ _ (sym c.in-Ok.ensures.0) c.in_ok-whole.ensures.1,
      c.in-Ok.ensures.1,
    )

pub returns-in_err-write : goal.returns-in_err-write
returns-in_err-write g c =
    at-exit _ _ _ _ c.from_residual-in_err-write.ensures.1
    (inr (element-not_written _ c.args.tag (ders (g.F.WriteFields.trees c.args.fields.now)) _ _ _ _ (sym c.in-Ok.ensures.0)
    (fields-after _ _ _ _ _ _ _ c.in_ok-whole.ensures.0 c.in-Ok.ensures.1 c.in_err-write.ensures)))

pub returns : goal.returns
returns g c =
    let content = ders (g.F.WriteFields.trees c.args.fields.now) in (
      element-header c.args.tag content _ _ _ _ c.in_ok-whole.ensures.0 (sym c.in-Ok.ensures.0) c.in_ok-write.ensures.0,
      element-size c.args.tag content _ _ (sym c.in-Ok.ensures.0) c.in_ok-whole.ensures.1,
      c.in-Ok.ensures.1,
    )
