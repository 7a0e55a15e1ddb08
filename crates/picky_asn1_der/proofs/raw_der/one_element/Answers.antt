use Rattle.std.proofs.Common.{sym, ◌∙◌}
use Rattle.asn1_codec.proofs.Chain.{at-exit}
use Rattle.picky_asn1_der.proofs.Splits.{not_one, not_all, some_left, content_fits, held_parts}
use Rattle.picky_asn1_der.proofs.raw_der.one_element.Goals as goal

pub returns-in_err-element : goal.returns-in_err-element
returns-in_err-element c =
    at-exit _ _ _ _ c.from_residual.ensures.1 (not_one c.args.bytes.now _ c.in_err-element.ensures.0 c.in_err-element.ensures.1)

pub returns-then-not-is_empty : goal.returns-then-not-is_empty
returns-then-not-is_empty c =
    not_all c.args.bytes.now c.in_ok-element.rest.now c.in_ok-element.element c.in_ok-element.ensures.split
    (some_left c.in_ok-element.rest.now (sym c.if-not-is_empty.true ∙ c.is_empty.ensures))

pub overflow_sub-result : goal.overflow_sub-result
overflow_sub-result c =
    content_fits c.args.bytes.now c.in_ok-element.rest.now c.content.result.now c.in_ok-element.element c.in_ok-element.ensures.split c.content.ensures

pub returns : goal.returns
returns c =
    held_parts c.args.bytes.now c.in_ok-element.rest.now c.content.result.now c.in_ok-element.element c.from.result c.in_ok-element.ensures.split
    (sym c.if-not-is_empty.false ∙ c.is_empty.ensures) c.content.ensures (c.from.ensures ∙ c.tag.ensures)
