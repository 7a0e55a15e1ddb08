use Rattle.std.proofs.Common.{◌+◌, ◌-◌, ap, sym, ◌∙◌, inl, inr, arith}
use Rattle.byte_streams.proofs.Exits.{at-exit}
use Rattle.krb_pac.specs.Arrays.{in_front}
use Rattle.krb_pac.proofs.ItemLaws.{list-left, list-more, list-done}
use Rattle.krb_pac.proofs.ndr.items.read_list.Goals as goal

pub returns-in_err-end : goal.returns-in_err-end
returns-in_err-end g c =
    at-exit _ _ _ _ c.from_residual.ensures.1
    (elim c.in_err-end.ensures [
      | inl memory ↦ inl memory
      | inr wrong ↦ inr (sym c.loop.invariant ∙ ap (in_front c.loop.items.items)
          (list-left g.T.NdrItem.reading (c.args.count - c.loop.counter) (c.args.count - (c.loop.counter + 1)) c.loop.end c.args.bytes.now _ (omega (arith, c.loop-test.true)) wrong))
    ])

pub loop-preserved : goal.loop-preserved
loop-preserved g c =
    let (item, is, grown) = c.in_ok-end.ensures in
    list-more g.T.NdrItem.reading _ _ item (c.args.count - c.loop.counter) (c.args.count - (c.loop.counter + 1)) c.args.place c.args.count c.loop.end _ c.args.bytes.now
    (omega (arith, c.loop-test.true)) is grown c.loop.invariant

pub returns : goal.returns
returns g c =
    list-done g.T.NdrItem.reading c.loop.items.items (c.args.count - c.loop.counter) c.args.place c.args.count c.loop.end c.args.bytes.now
    (omega (arith, c.loop-test.false)) c.loop.invariant
