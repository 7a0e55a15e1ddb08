use Rattle.std.proofs.Common.{◌≡◌, [], ◌∷◌, ◌++◌, append-nil, refl, sym, ap, ◌∙◌, rules}
use Rattle.std.proofs.Output.{has_written_append, has_written_of_eq}
use Rattle.asn1_leaves.specs.ObjectIdentifier.{dotted_text}
use Rattle.asn1_leaves.proofs.DottedLemmas.{dotted-nil, dotted-first}
use Rattle.asn1_leaves.proofs.oid.ObjectIdentifierDisplay.fmt.Goals as goal

pub returns-in_default-clause-writes : goal.returns-in_default-clause-writes
returns-in_default-clause-writes g c = λ plain ok.
    let none : c.args.self.now ≡ [] = sym c.arcs-arcs.ensures ∙ c.in_default.ensures.steps.0 in
    has_written_of_eq _ _ _ _ _ (sym (ap dotted_text none ∙ dotted-nil)) (search rules)

pub returns-clause-writes : goal.returns-clause-writes
returns-clause-writes g c = λ plain ok.
    let first = c.in_ok-write.ensures.writes plain refl in
    let rest = c.loop-arc.invariant.written first.plain in
    let all : c.args.self.now ≡ c.in-Some.first ∷ c.loop-arc.yielded =
    sym c.arcs-arcs.ensures
    ∙ c.in-Some.ensures.steps
    ∙ ap (λ arcs. c.in-Some.first ∷ arcs) (sym c.into_iter-arc-iterator.ensures.into_iter_gives ∙ c.loop-arc.invariant.left ∙ ap (λ arcs. c.loop-arc.yielded ++ arcs) c.in-None.ensures.steps.0 ∙ append-nil c.loop-arc.yielded) in
    has_written_of_eq _ _ _ _ _ (sym (ap dotted_text all ∙ dotted-first c.in-Some.first c.loop-arc.yielded)) (has_written_append _ _ _ _ _ _ first rest)
