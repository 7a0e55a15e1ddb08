use Rattle.std.proofs.Common.{subst}
use Rattle.asn1_der.specs.Tree.{der}
use Rattle.picky_asn1_der.specs.Defaults.{told_value}
use Rattle.asn1_codec.specs.Reading.{Tells}
use Rattle.asn1_codec.proofs.Chain.{at-exit, refused-after, refused-as, refused-taken, took-unread}
use Rattle.asn1_codec.proofs.FieldsLemmas.{optional_some_cut, optional_head_refused, optional_tail_refused}
use Rattle.picky_asn1_der.proofs.DefaultLemmas.{never_default}
use Rattle.picky_asn1_der.proofs.default.DefaultFieldItem.read_before.Goals as goal

pub returns-in_err-head : goal.returns-in_err-head
returns-in_err-head g c =
    let tells = subst (λ b. Tells g.H.Serialize.firsts b c.args.from.now) c.if-begins.true c.in_ok-begins.ensures.1 in
    at-exit _ _ _ _ c.from_residual-in_err-head.ensures.1
    (refused-as _ _ _ _ _
    (optional_head_refused g.H.Serialize.tree g.T.Fields.trees g.H.Serialize.firsts g.T.Fields.firsts c.requires.told
    g.H.Serialize.begins g.T.Fields.starts _ _ _ _ c.in_ok-begins.ensures.0 tells c.in_err-head.ensures)
    (λ bytes p. ((told_value g.H.HasDefault.is_default_value p.0.0.0, p.0.1), p.1, p.2, p.3)))

pub returns-then-is_default : goal.returns-then-is_default
returns-then-is_default g c =
    let tree = g.H.Serialize.tree in
    let head = c.in_ok-head.ensures in
    let took = took-unread (der (tree c.in_ok-head.head)) _ _ _ c.in_ok-begins.ensures.0 head.1 in
    refused-taken _ (der (tree c.in_ok-head.head)) _ _ _ _ _ took c.refuse.ensures.after c.refuse.ensures.fault tt
    (λ bytes rest behind p e within.
    let never = never_default tree g.T.Fields.trees g.H.Serialize.firsts g.T.Fields.firsts c.requires.told g.H.Serialize.begins g.T.Fields.starts
    g.H.Serialize.seen g.H.Serialize.injective g.H.HasDefault.is_default_value g.met.H.HasDefault.kept p.0.0.0 p.0.1 c.in_ok-head.head c.args.from.now.limit _ head.0 took.limit
    bytes rest behind p.1 p.2 p.3 e in
    absurd (cc (never, c.if-is_default.ensures)))

pub returns-in_err-tail : goal.returns-in_err-tail
returns-in_err-tail g c =
    let tree = g.H.Serialize.tree in
    let head = c.in_ok-head.ensures in
    let took = took-unread (der (tree c.in_ok-head.head)) _ _ _ c.in_ok-begins.ensures.0 head.1 in
    at-exit _ _ _ _ c.from_residual-in_err-tail.ensures.1
    (refused-as _ _ _ _ _
    (refused-after _ _ (der (tree c.in_ok-head.head)) _ _ _ _ took c.in_err-tail.ensures
    (optional_some_cut tree g.T.Fields.trees g.H.Serialize.firsts g.T.Fields.firsts c.requires.told
    g.H.Serialize.begins g.T.Fields.starts c.in_ok-head.head c.args.from.now.limit _ head.0 took.limit))
    (λ bytes p. ((told_value g.H.HasDefault.is_default_value p.0.0.0, p.0.1), p.1, p.2, p.3)))

pub returns-in_err-tail-2 : goal.returns-in_err-tail-2
returns-in_err-tail-2 g c =
    let tells = subst (λ b. Tells g.H.Serialize.firsts b c.args.from.now) c.if-begins.false c.in_ok-begins.ensures.1 in
    at-exit _ _ _ _ c.from_residual-in_err-tail-2.ensures.1
    (refused-as _ _ _ _ _
    (optional_tail_refused g.H.Serialize.tree g.T.Fields.trees g.H.Serialize.firsts g.T.Fields.firsts c.requires.told
    g.H.Serialize.begins g.T.Fields.starts _ _ _ _ c.in_ok-begins.ensures.0 tells c.in_err-tail-2.ensures)
    (λ bytes p. ((told_value g.H.HasDefault.is_default_value p.0.0.0, p.0.1), p.1, p.2, p.3)))
