use Rattle.std.proofs.Common.{arith}
use Rattle.krb_pac.proofs.TableLaws.{exit-is, sole-more, sole-refused, sole-done}
use Rattle.krb_pac.proofs.table.sole_of.Goals as goal

pub returns-in_err-found : goal.returns-in_err-found
returns-in_err-found c =
    exit-is _ _ _ c.from_residual.ensures.1
    (sole-refused c.args.number c.loop-row.found c.args.rows.now c.loop-row.row-index _ _ _ c.in_err-found.ensures c.loop-row-test.true c.loop-row.invariant)

pub loop-row-preserved : goal.loop-row-preserved
loop-row-preserved c =
    sole-more c.args.number c.loop-row.found _ c.args.rows.now c.loop-row.row-index _ _ c.in_ok-found.ensures c.loop-row-test.true c.loop-row.invariant

pub returns : goal.returns
returns c =
    sole-done c.args.number c.loop-row.found c.args.rows.now c.loop-row.row-index _ (omega (arith, c.loop-row-test.false)) c.loop-row.invariant
