use Rattle.std.proofs.Common.{inr, arith}
use Rattle.byte_streams.proofs.Exits.{at-exit}
use Rattle.negoex_messages.specs.Pairs.{pair_layout}
use Rattle.negoex_messages.specs.PairLaws.{pair_laws}
use Rattle.negoex_messages.proofs.PairPut.{pair-put, first-long, long-more}
use Rattle.negoex_messages.proofs.nego.put_three.Goals as goal

pub returns-in_err-put_both : goal.returns-in_err-put_both
returns-in_err-put_both g c = at-exit _ _ _ _ c.from_residual.ensures.1 (long-more _ _ _ _ c.in_err-put_both.ensures)

pub returns-in_err-behind : goal.returns-in_err-behind
returns-in_err-behind g c =
    let a = pair_layout g.A.Laid.layout g.B.Laid.layout in
    at-exit _ _ _ _ c.from_residual-in_err-behind.ensures.1
    (inr (
      c.in_err-behind.ensures.0,
      first-long a (pair_laws g.A.Laid.layout g.B.Laid.layout g.A.Laid.laws g.B.Laid.laws) _ c.args.offset _ _ _ _ _ c.in_ok-put_both.ensures
          (omega (arith, c.in_err-behind.ensures.1, c.len.ensures, c.len-before.ensures)),
    ))

pub returns : goal.returns
returns g c =
    let a = pair_layout g.A.Laid.layout g.B.Laid.layout in
    pair-put a g.C.Laid.layout (pair_laws g.A.Laid.layout g.B.Laid.layout g.A.Laid.laws g.B.Laid.laws) _ _ c.args.offset c.in_ok-behind.behind
    _ _ _ _ _ _ c.put.result c.in_ok-put_both.ensures (omega (arith, c.in_ok-behind.ensures.0, c.len.ensures, c.len-before.ensures)) c.in_ok-behind.ensures.1 c.put.ensures
