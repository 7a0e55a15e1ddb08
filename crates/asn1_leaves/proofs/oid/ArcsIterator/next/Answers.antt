use Rattle.std.proofs.Common.{◌≡◌, ◌∷◌, [], length, sym, ap, ◌∙◌, rules}
use Rattle.asn1_leaves.specs.ObjectIdentifier.{numbers_after}
use Rattle.asn1_leaves.proofs.NumberLemmas.{numbers-subidentifier, numbers-pop}
use Rattle.asn1_leaves.proofs.OidLemmas.{nothing_left, left-none}
use Rattle.asn1_leaves.proofs.oid.ArcsIterator.next.Goals as goal

pub returns-in_err-number-clause-steps : goal.returns-in_err-number-clause-steps
returns-in_err-number-clause-steps c =
    let rest = c.self.inside.rest.now in
    let empty : rest ≡ [] = nothing_left rest c.self.invariant c.in_err-number.ensures in
    let before : c.args.self.now ≡ [] =
    sym c.self.view_is
    ∙ left-none c.self.inside.first c.self.inside.second rest (sym c.take.ensures.value ∙ c.in_default.is) (sym c.take-2.ensures.value ∙ c.in_default-take.is)
    ∙ ap (numbers_after 0) empty in
    let after = left-none c.take.new.self c.take-2.new.self rest c.take.ensures.after c.take-2.ensures.after ∙ ap (numbers_after 0) empty in
    rw c.from_residual.ensures (before, after)

pub invariant_of-self-2 : goal.invariant_of-self-2
invariant_of-self-2 c = numbers-pop _ _ _ c.in_ok-number.ensures.1 c.self.invariant

pub returns-clause-steps : goal.returns-clause-steps
returns-clause-steps c =
    let rest = c.self.inside.rest.now in
    let after = c.in_ok-number.rest.now in
    sym c.self.view_is
    ∙ left-none c.self.inside.first c.self.inside.second rest (sym c.take.ensures.value ∙ c.in_default.is) (sym c.take-2.ensures.value ∙ c.in_default-take.is)
    ∙ ap (numbers_after 0) (sym c.in_ok-number.ensures.1)
    ∙ numbers-subidentifier c.in_ok-number.number after
    ∙ ap (λ ns. c.in_ok-number.number ∷ ns) (sym (left-none c.take.new.self c.take-2.new.self after c.take.ensures.after c.take-2.ensures.after))

pub returns-clause-goes : goal.returns-clause-goes
returns-clause-goes c = let steps = ap length (returns-clause-steps c) in search rules
