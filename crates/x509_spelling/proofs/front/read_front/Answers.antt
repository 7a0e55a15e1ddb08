use Rattle.std.proofs.Common.{inr}
use Rattle.asn1_codec.proofs.Chain.{at-exit}
use Rattle.x509_spelling.proofs.Refusals.{no_front, front_refused, front_told}
use Rattle.x509_spelling.proofs.front.read_front.Goals as goal

pub returns-in_err-element : goal.returns-in_err-element
returns-in_err-element g c =
    let t = g.T.Spelled in
    at-exit _ _ _ _ c.from_residual.ensures.1 (inr (no_front t.has_low_tags t.begun t.written t.spells t.laws c.args.bytes.now c.in_err-element.ensures.0))

pub returns-in_err-counted : goal.returns-in_err-counted
returns-in_err-counted g c =
    let t = g.T.Spelled in
    at-exit _ _ _ _ c.from_residual-in_err-counted.ensures.1
    (front_refused t.has_low_tags t.begun t.written t.spells t.laws c.args.bytes.now c.whole.result.now c.in_ok-element.rest.now _ _ c.whole.ensures c.in_ok-element.ensures.split.1
    _ c.in_err-counted.ensures)

pub returns : goal.returns
returns g c =
    front_told g.T.Spelled.spells c.args.bytes.now c.whole.result.now c.in_ok-element.rest.now _ _ c.whole.ensures c.in_ok-element.ensures.split.0 c.in_ok-element.ensures.split.1
    _ _ c.in_ok-counted.ensures
