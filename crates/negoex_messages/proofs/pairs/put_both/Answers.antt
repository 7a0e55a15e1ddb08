use Rattle.std.proofs.Common.{arith}
use Rattle.negoex_messages.proofs.PairPut.{pair-put}
use Rattle.negoex_messages.proofs.pairs.put_both.Goals as goal

pub returns : goal.returns
returns g c =
    pair-put g.A.Laid.layout g.B.Laid.layout g.A.Laid.laws (g.A.Laid.view c.args.first.now) (g.B.Laid.view c.args.second.now) c.args.offset c.in_ok-behind.behind
    _ _ _ _ _ _ c.put-2.result c.in_ok-put.ensures (omega (arith, c.in_ok-behind.ensures.0, c.len.ensures, c.len-before.ensures)) c.in_ok-behind.ensures.1 c.put-2.ensures
