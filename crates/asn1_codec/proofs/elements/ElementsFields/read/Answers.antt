use Rattle.std.proofs.Common.{◌≡◌, ◌<◌, ◌≤◌, ◌++◌, [], length, sym, ap, ◌∙◌, arith, refl, subst}
use Rattle.asn1_der.specs.Tree.{der, ders, trees_of, AreWhole}
use Rattle.asn1_codec.specs.Reading.{IsSpelling, AreFields}
use Rattle.asn1_codec.proofs.Chain.{at-exit, passed-nothing, passed-as, passed-of, passed-join, took-of, took-as, refused-passed, refused-memory}
use Rattle.asn1_codec.proofs.FieldsLemmas.{trees_more, whole_more, elements_cut, der_size}
use Rattle.asn1_codec.proofs.elements.ElementsFields.read.Goals as goal

pub elements-init : goal.elements-init
elements-init g c =
    let tree = g.T.Serialize.tree in
    let none = ap (λ l. ders (trees_of tree l)) (sym c.new-items.ensures.items) in
    record {
      whole = subst (λ l. AreWhole (trees_of tree l)) (sym c.new-items.ensures.items) tt;
      took = passed-as [] _ _ _ none (passed-nothing _ c.in_ok-ready.ensures);
    }

pub returns-in_err-item : goal.returns-in_err-item
returns-in_err-item g c =
    let tree = g.T.Serialize.tree in
    let items = c.elements.items.items in
    let took = c.elements.invariant.took in
    let some : 1 ≤ c.elements.from.limit = c.elements-test.ensures.some.0 refl in
    at-exit _ _ _ _ c.from_residual-in_err-item.ensures.1
    (refused-passed (AreFields (trees_of tree) c.args.from.now.limit) (IsSpelling tree) (ders (trees_of tree items)) _ _ _ _ took c.in_err-item.ensures
    (λ bytes rest behind p e within.
    let spelled = ap (λ l. l ++ rest) (sym p.2) ∙ e in
    let longer : length (ders (trees_of tree items)) < length (ders (trees_of tree p.0)) = omega (arith, took.limit, some, p.3, ap length p.2) in
    let found = elements_cut tree items p.0 rest behind c.elements.invariant.whole p.1 spelled longer in
    (der (tree found.0), found.1, (found.0, (found.2, refl)), found.3, omega (arith, found.4, ap length p.2))))

pub elements-smaller : goal.elements-smaller
elements-smaller g c =
    let took = c.in_ok-item.ensures.1 in
    omega (arith, took.limit, der_size (g.T.Serialize.tree c.in_ok-item.item) c.in_ok-item.ensures.0)

pub elements-preserved : goal.elements-preserved
elements-preserved g c =
    let tree = g.T.Serialize.tree in
    let items = c.elements.items.items in
    let item = c.in_ok-item.item in
    let longer = c.in-Ok.ensures.items in
    record {
      whole = subst (λ l. AreWhole (trees_of tree l)) (sym longer) (whole_more tree items item c.elements.invariant.whole c.in_ok-item.ensures.0);
      took = passed-of _ _ _ (took-as _ _ _ _ (sym (ap (λ l. ders (trees_of tree l)) longer ∙ trees_more tree items item))
          (passed-join (ders (trees_of tree items)) (der (tree item)) _ _ _ c.elements.invariant.took c.in_ok-item.ensures.1));
    }

pub returns-in-Err : goal.returns-in-Err
returns-in-Err g c =
    let tree = g.T.Serialize.tree in
    let took = passed-join (ders (trees_of tree c.elements.items.items)) (der (tree c.in_ok-item.item)) _ _ _ c.elements.invariant.took c.in_ok-item.ensures.1 in
    refused-memory _ _ _ _ _ _ took c.refuse.ensures.after c.refuse.ensures.fault

pub returns : goal.returns
returns g c =
    let ended : c.elements.from.limit ≡ 0 = grind (arith, c.elements-test.ensures.some) in
    (c.elements.invariant.whole, took-of _ _ _ c.elements.invariant.took (c.elements-test.ensures.none refl), ended)
