use Rattle.std.proofs.Common.{sym, arith}
use Rattle.krb_pac.proofs.NumberLaws.{laid}
use Rattle.krb_pac.proofs.ndr.numbers.u32_at.Goals as goal

pub returns-clause-laid : goal.returns-clause-laid
returns-clause-laid c =
    laid 4 c.args.place c.in_ok-at.at _ c.args.bytes.now (omega arith) (sym c.in_ok-at.ensures.exact) c.u32_le.ensures.stands
