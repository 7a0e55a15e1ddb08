use Rattle.std.proofs.Common.{arith}
use Rattle.negoex_messages.proofs.ElementsPut.{count-below}
use Rattle.negoex_messages.proofs.vectors.VecLaid.put.Goals as goal

pub extend_number-requires-2 : goal.extend_number-requires-2
extend_number-requires-2 g c =
    let some = g.met.T.Laid in
    let t = g.T.Laid in
    omega (
      arith,
      c.in_ok-first.ensures.0,
      c.in_ok-first.ensures.1,
      c.len.ensures,
      c.len-2.ensures,
      count-below c.len.result c.width.result (omega (arith, t.laws.some, c.width.ensures)),
    )
