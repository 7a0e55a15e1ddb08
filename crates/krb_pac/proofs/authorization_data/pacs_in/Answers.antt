use Rattle.std.proofs.Common.{inl, inr, arith}
use Rattle.byte_streams.proofs.Exits.{at-exit}
use Rattle.krb_pac.proofs.ElementLaws.{so-far-begin, so-far-more, so-far-refused, so-far-done}
use Rattle.krb_pac.proofs.authorization_data.pacs_in.Goals as goal

pub loop-element-init : goal.loop-element-init
loop-element-init c = so-far-begin c.args.elements.now c.new-pacs.result.items c.new-pacs.ensures.items

pub returns-in_err-put_from : goal.returns-in_err-put_from
returns-in_err-put_from c =
    at-exit _ _ _ _ c.from_residual.ensures.1
    (elim c.in_err-put_from.ensures [
      | inl memory ↦ inl memory
      | inr none ↦ inr (none.0, so-far-refused c.args.elements.now c.loop-element.element-index c.element-item.result c.loop-element.pacs.items c.loop-element-test.true c.element-item.is none.1 c.loop-element.invariant)
    ])

pub loop-element-preserved : goal.loop-element-preserved
loop-element-preserved c =
    let (here, has, grown) = c.in_ok-put_from.ensures in
    so-far-more c.args.elements.now c.loop-element.element-index c.element-item.result c.loop-element.pacs.items _ here c.loop-element-test.true c.element-item.is has grown c.loop-element.invariant

pub returns : goal.returns
returns c =
    so-far-done c.args.elements.now c.loop-element.element-index c.loop-element.pacs.items (omega (arith, c.loop-element-test.false)) c.loop-element.invariant
