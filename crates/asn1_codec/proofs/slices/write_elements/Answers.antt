use Rattle.std.proofs.Common.{◌+◌, ◌∷◌, ◌++◌, [], take, length, sym, ap, ◌∙◌, arith, length-append}
use Rattle.std.proofs.lemmas.List.{take_more}
use Rattle.asn1_der.specs.Tree.{der, ders, trees_of}
use Rattle.asn1_codec.proofs.Writes.{wrote-join, wrote-as, wrote-same}
use Rattle.asn1_codec.proofs.ElementWrites.{listed-refused, listed-too_long, listed-none}
use Rattle.asn1_codec.proofs.FieldsLemmas.{trees_more}
use Rattle.asn1_codec.proofs.Chain.{at-exit}
use Rattle.asn1_codec.proofs.slices.write_elements.Goals as goal

pub returns-in_err-size : goal.returns-in_err-size
returns-in_err-size g c =
    at-exit _ _ _ _ c.from_residual-in_err-size.ensures.1
    (listed-refused g.T.Serialize.tree g.T.Serialize.refusal c.args.items.now c.loop-item.item-index c.item-item.result _ _ _ _ c.loop-item-test.true
    (sym c.item-item.is) c.loop-item.invariant.wrote c.loop-item.invariant.none c.in_err-size.ensures)

pub returns-in_err-count : goal.returns-in_err-count
returns-in_err-count g c =
    at-exit _ _ _ _ c.from_residual-in_err-count.ensures.1
    (listed-too_long g.T.Serialize.tree g.T.Serialize.refusal c.args.items.now c.loop-item.item-index c.item-item.result _ _ _ _ _ _ _ c.loop-item-test.true
    (sym c.item-item.is) c.loop-item.invariant.wrote c.loop-item.invariant.size c.in_ok-size.ensures.0 c.in_ok-size.ensures.1 c.in_err-count.ensures.1
    c.in_err-count.ensures.2 c.in_err-count.ensures.0)

pub loop-item-preserved : goal.loop-item-preserved
loop-item-preserved g c =
    let tree = g.T.Serialize.tree in
    let items = c.args.items.now in
    let index = c.loop-item.item-index in
    let item = c.item-item.result in
    let longer = take_more items index item c.loop-item-test.true ∙ ap (λ x. take index items ++ x ∷ []) (sym c.item-item.is) in
    let bytes = ap (λ l. ders (trees_of tree l)) longer ∙ trees_more tree (take index items) item in
    record {
      wrote = wrote-as _ (ders (trees_of tree (take (index + 1) items))) _ _ (sym bytes)
          (wrote-same _ _ _ _ (wrote-join (ders (trees_of tree (take index items))) (der (tree item)) _ _ _ c.loop-item.invariant.wrote c.in_ok-size.ensures.0) c.in_ok-count.ensures.1);
      none = listed-none g.T.Serialize.refusal (take index items) item _ longer c.loop-item.invariant.none c.in_ok-size.ensures.2;
      size = omega (arith, ap length bytes, length-append (ders (trees_of tree (take index items))) (der (tree item)), c.loop-item.invariant.size, c.in_ok-size.ensures.1, c.in_ok-count.ensures.0);
    }
