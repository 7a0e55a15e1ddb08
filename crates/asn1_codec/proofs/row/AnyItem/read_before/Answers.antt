use Rattle.asn1_der.specs.Tree.{der}
use Rattle.asn1_codec.proofs.Chain.{at-exit, refused-after, refused-as}
use Rattle.asn1_codec.proofs.FieldsLemmas.{required_cut}
use Rattle.asn1_codec.proofs.row.AnyItem.read_before.Goals as goal

pub returns-in_err-tail : goal.returns-in_err-tail
returns-in_err-tail g c =
    let head = c.in_ok-head.ensures in
    at-exit _ _ _ _ c.from_residual-in_err-tail.ensures.1
    (refused-as _ _ _ _ _
    (refused-after _ _ (der (g.H.Serialize.tree c.in_ok-head.head)) _ _ _ _ head.1 c.in_err-tail.ensures
    (required_cut g.H.Serialize.tree g.T.Fields.trees c.in_ok-head.head c.args.from.now.limit _ head.0 head.1.limit))
    (λ bytes p. ((p.0.0, p.0.1), p.1, p.2, p.3)))
