use Rattle.std.proofs.Common.{subst, inr}
use Rattle.std.proofs.lemmas.Bool.{and_parts}
use Rattle.asn1_der.specs.Firsts.{apart}
use Rattle.picky_asn1_der.specs.Choices.{choice_tree}
use Rattle.asn1_codec.specs.Reading.{Tells}
use Rattle.asn1_codec.proofs.Chain.{at-exit, refused-as}
use Rattle.picky_asn1_der.proofs.ChoiceLemmas.{spelled_octets, this_refused, others_refused}
use Rattle.picky_asn1_der.proofs.choice.ChoiceAlternatives.read_one.Goals as goal

pub returns-in_err-begins : goal.returns-in_err-begins
returns-in_err-begins g c =
    at-exit _ _ _ _ c.from_residual.ensures.1
    (refused-as _ _ _ _ _ c.in_err-begins.ensures
    (λ bytes p. inr (spelled_octets (choice_tree g.A.Serialize.tree g.B.Alternatives.tree) bytes p)))

pub returns-in_err-value : goal.returns-in_err-value
returns-in_err-value g c =
    let distinct = (and_parts (apart g.A.Serialize.firsts g.B.Alternatives.firsts) g.B.Alternatives.sound c.requires).0 in
    let tells = subst (λ b. Tells g.A.Serialize.firsts b c.args.from.now) c.if-begins.true c.in_ok-begins.ensures.1 in
    at-exit _ _ _ _ c.from_residual-in_err-value.ensures.1
    (this_refused g.A.Serialize.tree g.B.Alternatives.tree g.A.Serialize.firsts g.B.Alternatives.firsts distinct
    g.A.Serialize.begins g.B.Alternatives.begins _ _ _ _ c.in_ok-begins.ensures.0 tells c.in_err-value.ensures)

pub returns-in_err-others : goal.returns-in_err-others
returns-in_err-others g c =
    let distinct = (and_parts (apart g.A.Serialize.firsts g.B.Alternatives.firsts) g.B.Alternatives.sound c.requires).0 in
    let tells = subst (λ b. Tells g.A.Serialize.firsts b c.args.from.now) c.if-begins.false c.in_ok-begins.ensures.1 in
    at-exit _ _ _ _ c.from_residual-in_err-others.ensures.1
    (others_refused g.A.Serialize.tree g.B.Alternatives.tree g.A.Serialize.firsts g.B.Alternatives.firsts distinct
    g.A.Serialize.begins g.B.Alternatives.begins _ _ _ _ c.in_ok-begins.ensures.0 tells c.in_err-others.ensures)
