use Rattle.std.proofs.Common.{sym, ◌∙◌}
use Rattle.asn1_codec.proofs.Chain.{at-exit}
use Rattle.x509_spelling.proofs.Refusals.{no_element, same_element, some_left}
use Rattle.x509_spelling.proofs.sequence.content_of.Goals as goal

pub returns-in_err-element : goal.returns-in_err-element
returns-in_err-element c =
    at-exit _ _ _ _ c.from_residual.ensures.1 (no_element c.args.bytes.now c.args.first c.requires c.in_err-element.ensures.0)

pub returns-then-from-first : goal.returns-then-from-first
returns-then-from-first c = λ content e.
    let same = same_element c.args.bytes.now c.in_ok-element.element.first c.args.first c.in_ok-element.element.content content c.in_ok-element.rest.now
    c.in_ok-element.ensures.split.1 e in
    c.if-from-first.true (c.from.ensures ∙ c.tag.ensures ∙ same.0)

pub returns-then-not-is_empty : goal.returns-then-not-is_empty
returns-then-not-is_empty c = λ content e.
    let same = same_element c.args.bytes.now c.in_ok-element.element.first c.args.first c.in_ok-element.element.content content c.in_ok-element.rest.now
    c.in_ok-element.ensures.split.1 e in
    some_left c.in_ok-element.rest.now (sym c.if-not-is_empty.true ∙ c.is_empty.ensures) same.2
