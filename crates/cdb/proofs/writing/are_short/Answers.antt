use Rattle.std.proofs.Common.{sym}
use Rattle.std.proofs.lemmas.Bool.{MatchBool-at_false}
use Rattle.cdb.proofs.writing.are_short.Goals as goal

pub returns-then-not-is_short : goal.returns-then-not-is_short
returns-then-not-is_short c =
    (c.loop-one.one-index, c.one-item.result, c.loop-one-test.true, sym c.one-item.is, MatchBool-at_false _ _ c.if-not-is_short.true c.is_short.ensures)
