use Rattle.std.proofs.Common.{sym, arith}
use Rattle.krb_pac.proofs.NumberLaws.{laid}
use Rattle.krb_pac.proofs.ndr.numbers.u16_at.Goals as goal

pub returns-clause-laid : goal.returns-clause-laid
returns-clause-laid c =
    laid 2 c.args.place c.in_ok-at.at _ c.args.bytes.now (omega arith) (sym c.in_ok-at.ensures.exact) c.u16_le.ensures.stands
