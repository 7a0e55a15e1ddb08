use Rattle.picky_asn1_der.proofs.PathLemmas.{not_empty, no_elements, some_step, rest_shorter}
use Rattle.picky_asn1_der.proofs.part.are_elements.Goals as goal

pub elements-init : goal.elements-init
elements-init c = (λ some. some, λ some. some)

pub returns-in_default : goal.returns-in_default
returns-in_default c = (
  λ e. absurd (cc (e)),
  λ some.
      absurd (no_elements c.elements.rest.now c.in_default.ensures.0 (not_empty c.elements.rest.now _ c.is_empty.ensures c.elements-test.true) (c.elements.invariant.0 some)),
)

pub elements-smaller : goal.elements-smaller
elements-smaller c = rest_shorter c.elements.rest.now c.in-Ok.field-0-0 c.in-Ok.behind.now c.in-Ok.ensures.split

pub elements-preserved : goal.elements-preserved
elements-preserved c =
    let step =
    some_step c.elements.rest.now c.in-Ok.field-0-0 c.in-Ok.behind.now c.in-Ok.ensures.split (not_empty c.elements.rest.now _ c.is_empty.ensures c.elements-test.true) in
    (λ some. step.0 (c.elements.invariant.0 some), λ some. c.elements.invariant.1 (step.1 some))
