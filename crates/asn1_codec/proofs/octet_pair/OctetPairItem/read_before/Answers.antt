use Rattle.std.proofs.Common.{[], ◌∷◌}
use Rattle.asn1_codec.specs.Reading.{IsOctet}
use Rattle.asn1_codec.proofs.Chain.{at-exit, refused-front, refused-after, refused-as, took-join}
use Rattle.asn1_codec.proofs.PairLemmas.{pair_octet, pair_second, pair_cut, pair_took}
use Rattle.asn1_codec.proofs.octet_pair.OctetPairItem.read_before.Goals as goal

pub returns-in_err-first : goal.returns-in_err-first
returns-in_err-first g c =
    at-exit _ _ _ _ c.from_residual.ensures.1
    (refused-front _ IsOctet _ _ _ c.in_err-first.ensures (λ bytes p. pair_octet g.T.Fields.trees _ bytes ((p.0.0.0, p.0.1), p.1, p.2, p.3)))

pub returns-in_err-second : goal.returns-in_err-second
returns-in_err-second g c =
    at-exit _ _ _ _ c.from_residual-in_err-second.ensures.1
    (refused-as _ _ _ _ _
    (refused-after _ IsOctet (c.in_ok-first.first ∷ []) _ _ _ _ c.in_ok-first.ensures c.in_err-second.ensures
    (pair_second g.T.Fields.trees c.in_ok-first.first c.args.from.now.limit))
    (λ bytes p. ((p.0.0.0, p.0.1), p.1, p.2, p.3)))

pub returns-in_err-tail : goal.returns-in_err-tail
returns-in_err-tail g c =
    let octets = took-join _ _ _ _ _ c.in_ok-first.ensures c.in_ok-second.ensures in
    at-exit _ _ _ _ c.from_residual-in_err-tail.ensures.1
    (refused-as _ _ _ _ _
    (refused-after _ _ (c.in_ok-first.first ∷ (c.in_ok-second.second ∷ [])) _ _ _ _ octets c.in_err-tail.ensures
    (pair_cut g.T.Fields.trees c.in_ok-first.first c.in_ok-second.second c.args.from.now.limit _ octets.limit))
    (λ bytes p. ((p.0.0.0, p.0.1), p.1, p.2, p.3)))

pub returns : goal.returns
returns g c =
    pair_took g.T.Fields.trees c.in_ok-first.first c.in_ok-second.second c.in_ok-tail.tail _ _ _ _
    c.in_ok-first.ensures c.in_ok-second.ensures c.in_ok-tail.ensures
