use Rattle.std.proofs.Common.{subst}
use Rattle.asn1_codec.specs.Reading.{Tells}
use Rattle.asn1_codec.proofs.Chain.{at-exit, refused-as}
use Rattle.asn1_codec.proofs.FieldsLemmas.{optional_head_refused, optional_behind_refused, optional_took}
use Rattle.asn1_codec.proofs.row.OptionalOptionItem.read_before.Goals as goal

pub returns-in_err-head : goal.returns-in_err-head
returns-in_err-head g c =
    let tells = subst (λ b. Tells g.H.Serialize.firsts b c.args.from.now) c.in_err-head.ensures.0 c.in_ok-begins.ensures.1 in
    at-exit _ _ _ _ c.from_residual-in_err-head.ensures.1
    (refused-as _ _ _ _ _
    (optional_head_refused g.H.Serialize.tree g.T.Fields.trees g.H.Serialize.firsts g.T.Fields.firsts c.requires.told
    g.H.Serialize.begins g.T.Fields.starts _ _ _ _ c.in_ok-begins.ensures.0 tells c.in_err-head.ensures.1)
    (λ bytes p. ((p.0.0.0, p.0.1), p.1, p.2, p.3)))

pub returns-in_err-tail : goal.returns-in_err-tail
returns-in_err-tail g c =
    at-exit _ _ _ _ c.from_residual-in_err-tail.ensures.1
    (refused-as _ _ _ _ _
    (optional_behind_refused g.H.Serialize.tree g.T.Fields.trees g.H.Serialize.firsts g.T.Fields.firsts c.requires.told
    g.H.Serialize.begins g.T.Fields.starts c.in_ok-head.head c.in_ok-begins.begins _ _ _ _ _ c.in_ok-begins.ensures.0 c.in_ok-begins.ensures.1
    c.in_ok-head.ensures c.in_err-tail.ensures)
    (λ bytes p. ((p.0.0.0, p.0.1), p.1, p.2, p.3)))

pub returns : goal.returns
returns g c =
    optional_took g.H.Serialize.tree g.T.Fields.trees c.in_ok-head.head c.in_ok-tail.tail c.in_ok-begins.begins _ _ _ _
    c.in_ok-begins.ensures.0 c.in_ok-head.ensures c.in_ok-tail.ensures
