use Rattle.std.proofs.Common.{ℕ, List, sym, subst}
use Rattle.picky_asn1_der.specs.Parts.{IsPart}
use Rattle.picky_asn1_der.proofs.part.part_at.Goals as goal

pub path-init : goal.path-init
path-init c = λ found. (λ p. p, λ p. p)

pub returns-in_default-inner_element : goal.returns-in_default-inner_element
returns-in_default-inner_element c = λ found p.
    c.in_default-inner_element.ensures c.in-Some.further.now found
    (subst (λ (l : List ℕ). IsPart c.path.part.now l found) c.in-Some.ensures.cases.0 ((c.path.invariant found).0 p))

pub path-preserved : goal.path-preserved
path-preserved c = λ found.
    let step = c.in-Some-inner_element.ensures c.in-Some.further.now found in (
      λ p. step.0 (subst (λ (l : List ℕ). IsPart c.path.part.now l found) c.in-Some.ensures.cases.0 ((c.path.invariant found).0 p)),
      λ p. (c.path.invariant found).1 (subst (λ (l : List ℕ). IsPart c.path.part.now l found) (sym c.in-Some.ensures.cases.0) (step.1 p)),
    )
