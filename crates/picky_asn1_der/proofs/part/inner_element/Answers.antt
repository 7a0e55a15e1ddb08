use Rattle.picky_asn1_der.proofs.PathLemmas.{some_whole, inside_whole, alone_whole, not_empty, is_nothing}
use Rattle.picky_asn1_der.proofs.part.inner_element.Goals as goal

pub returns-in_default : goal.returns-in_default
returns-in_default c = λ path part p. some_whole c.args.bytes.now c.in_default.ensures.0 c.args.n path part p

pub returns-then-not-is_empty : goal.returns-then-not-is_empty
returns-then-not-is_empty c = λ path part p.
    alone_whole c.args.bytes.now c.in-Ok.whole c.in-Ok.rest.now c.in-Ok.ensures (not_empty c.in-Ok.rest.now _ c.is_empty.ensures c.if-not-is_empty.true) c.args.n path part p

pub returns-in_default-element_at : goal.returns-in_default-element_at
returns-in_default-element_at c = λ path part p.
    let same =
    inside_whole c.args.bytes.now c.in-Ok.whole c.in-Ok.rest.now c.in-Ok.ensures (is_nothing c.in-Ok.rest.now _ c.is_empty.ensures c.if-not-is_empty.false)
    c.content.result.now c.content.ensures c.args.n path part in
    c.in_default-element_at.ensures path part (same.0 p)

pub returns : goal.returns
returns c = λ path part.
    let same =
    inside_whole c.args.bytes.now c.in-Ok.whole c.in-Ok.rest.now c.in-Ok.ensures (is_nothing c.in-Ok.rest.now _ c.is_empty.ensures c.if-not-is_empty.false)
    c.content.result.now c.content.ensures c.args.n path part in
    let inner = c.in-Some.ensures path part in
    (λ p. inner.0 (same.0 p), λ q. same.1 (inner.1 q))
