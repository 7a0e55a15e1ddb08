use Rattle.std.proofs.Common.{◌++◌, arith, length-append}
use Rattle.asn1_der.specs.Tree.{der, ders}
use Rattle.asn1_codec.proofs.Chain.{at-exit}
use Rattle.asn1_codec.proofs.Writes.{wrote-join, fields-first, fields-rest, fields-sum}
use Rattle.asn1_codec.proofs.fields.write_field.Goals as goal

pub returns-in_err-first : goal.returns-in_err-first
returns-in_err-first g c =
    at-exit _ _ _ _ c.from_residual.ensures.1 (fields-first _ (g.T.WriteFields.refusal c.args.tail.now) _ (ders (g.T.WriteFields.trees c.args.tail.now)) _ _ _ c.in_err-first.ensures)

pub returns-in_err-rest : goal.returns-in_err-rest
returns-in_err-rest g c =
    at-exit _ _ _ _ c.from_residual-in_err-rest.ensures.1
    (fields-rest _ _ _ _ _ _ _ _ c.in_ok-first.ensures.0 c.in_ok-first.ensures.2 c.in_err-rest.ensures)

pub returns-in_err-sum : goal.returns-in_err-sum
returns-in_err-sum g c =
    let head = der (g.H.Serialize.tree c.args.head.now) in
    let tail = ders (g.T.WriteFields.trees c.args.tail.now) in
    at-exit _ _ _ _ c.from_residual-in_err-sum.ensures.1
    (fields-sum _ (head ++ tail) _ _ _ _ (wrote-join head tail _ _ _ c.in_ok-first.ensures.0 c.in_ok-rest.ensures.0)
    (omega (arith, length-append head tail, c.in_ok-first.ensures.1, c.in_ok-rest.ensures.1, c.in_err-sum.ensures.1)) c.in_err-sum.ensures.2 c.in_err-sum.ensures.0)
