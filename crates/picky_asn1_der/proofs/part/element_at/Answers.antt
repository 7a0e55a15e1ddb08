use Rattle.std.proofs.Common.{arith}
use Rattle.picky_asn1_der.proofs.PathLemmas.{never, some_in, step_first, step_later, behind_some}
use Rattle.picky_asn1_der.proofs.part.element_at.Goals as goal

pub elements-init : goal.elements-init
elements-init c = λ path part. (λ p. p, λ p. p)

pub returns-in_default : goal.returns-in_default
returns-in_default c = λ path part p.
    some_in c.elements.rest.now c.in_default.ensures.0 c.elements.left path part ((c.elements.invariant path part).0 p)

pub elements-preserved : goal.elements-preserved
elements-preserved c = λ path part.
    let step = step_later c.elements.rest.now c.in-Ok.field-0-0 c.in-Ok.behind.now c.in-Ok.ensures c.elements.left c.elements-test.true path part in
    (λ p. step.0 ((c.elements.invariant path part).0 p), λ p. (c.elements.invariant path part).1 (step.1 p))

pub returns-in_default-split_element : goal.returns-in_default-split_element
returns-in_default-split_element c = λ path part p.
    some_in c.elements.rest.now c.in_default-split_element.ensures.0 c.elements.left path part ((c.elements.invariant path part).0 p)

pub returns-then-not-are_elements : goal.returns-then-not-are_elements
returns-then-not-are_elements c = λ path part p.
    never c.are_elements.result c.if-not-are_elements.true
    (c.are_elements.ensures.1
    (behind_some c.elements.rest.now c.in-Ok-split_element.element c.in-Ok-split_element.behind.now c.in-Ok-split_element.ensures c.elements.left path part
    ((c.elements.invariant path part).0 p)))

pub returns : goal.returns
returns c = λ path part.
    let step =
    step_first c.elements.rest.now c.in-Ok-split_element.element c.in-Ok-split_element.behind.now c.in-Ok-split_element.ensures
    (c.are_elements.ensures.0 c.if-not-are_elements.false) c.elements.left (omega (arith, c.elements-test.false)) c.whole.result.now c.whole.ensures path part in
    (λ p. step.0 ((c.elements.invariant path part).0 p), λ q. (c.elements.invariant path part).1 (step.1 q))
