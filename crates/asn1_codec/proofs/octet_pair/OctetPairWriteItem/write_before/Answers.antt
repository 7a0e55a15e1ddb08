use Rattle.std.proofs.Common.{◌++◌, arith, length-append}
use Rattle.asn1_der.specs.Tree.{ders}
use Rattle.asn1_codec.proofs.Chain.{at-exit}
use Rattle.asn1_codec.proofs.PairLemmas.{pair-wrote, pair-unwritten}
use Rattle.asn1_codec.proofs.Writes.{wrote-join, fields-first, fields-rest, fields-sum}
use Rattle.asn1_codec.proofs.octet_pair.OctetPairWriteItem.write_before.Goals as goal

pub returns-in_err-first : goal.returns-in_err-first
returns-in_err-first g c =
    let others = g.T.WriteFields.trees c.args.others.now in
    let pair = c.two_of-octets.ensures in
    at-exit _ _ _ _ c.from_residual.ensures.1
    (pair-unwritten _ c.args.self.now.0 c.two_of-octets.result others _ _ _ pair.same pair.two
    (fields-first _ (g.T.WriteFields.refusal c.args.others.now) _ (ders others) _ _ _ c.in_err-first.ensures))

pub returns-in_err-rest : goal.returns-in_err-rest
returns-in_err-rest g c =
    let pair = c.two_of-octets.ensures in
    at-exit _ _ _ _ c.from_residual-in_err-rest.ensures.1
    (pair-unwritten _ c.args.self.now.0 c.two_of-octets.result (g.T.WriteFields.trees c.args.others.now) _ _ _ pair.same pair.two
    (fields-rest _ _ _ _ _ _ _ _ c.in_ok-first.ensures.0 c.in_ok-first.ensures.2 c.in_err-rest.ensures))

pub returns-in_err-sum : goal.returns-in_err-sum
returns-in_err-sum g c =
    let others = g.T.WriteFields.trees c.args.others.now in
    let octets = c.two_of-octets.result in
    let pair = c.two_of-octets.ensures in
    at-exit _ _ _ _ c.from_residual-in_err-sum.ensures.1
    (pair-unwritten _ c.args.self.now.0 octets others _ _ _ pair.same pair.two
    (fields-sum _ (octets ++ ders others) _ _ _ _ (wrote-join octets (ders others) _ _ _ c.in_ok-first.ensures.0 c.in_ok-rest.ensures.0)
    (omega (arith, length-append octets (ders others), c.in_ok-first.ensures.1, c.in_ok-rest.ensures.1, c.in_err-sum.ensures.1)) c.in_err-sum.ensures.2 c.in_err-sum.ensures.0))

pub returns : goal.returns
returns g c =
    let pair = c.two_of-octets.ensures in
    pair-wrote c.args.self.now.0 c.two_of-octets.result (g.T.WriteFields.trees c.args.others.now) _ _ _ _ _ _ _ _ pair.same pair.two
    c.in_ok-first.ensures c.in_ok-rest.ensures c.in_ok-sum.ensures.0 c.in_ok-sum.ensures.1
