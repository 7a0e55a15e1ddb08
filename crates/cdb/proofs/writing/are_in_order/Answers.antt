use Rattle.std.proofs.Common.{arith}
use Rattle.std.proofs.lemmas.Bool.{OnFalse_at}
use Rattle.cdb.proofs.writing.are_in_order.Goals as goal

pub returns-then-not-follows : goal.returns-then-not-follows
returns-then-not-follows c = (c.loop-index.index, omega arith, c.loop-index-test.true, OnFalse_at c.if-not-follows.true c.follows.ensures)
