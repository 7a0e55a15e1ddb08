use Rattle.std.proofs.Common.{sym, ◌∙◌, arith}
use Rattle.microsoft_messages.proofs.WritingLaws.{counted-unsized, counted-all}
use Rattle.microsoft_messages.proofs.pac.pac.count_sized.Goals as goal

pub returns-then-not-are_sized : goal.returns-then-not-are_sized
returns-then-not-are_sized c =
    sym (counted-unsized c.args.size c.args.buffers.now (omega (arith, c.if-buffers.false)) (sym c.are_sized.ensures ∙ c.if-not-are_sized.true))

pub returns : goal.returns
returns c =
    sym (counted-all c.args.size c.args.buffers.now (omega (arith, c.if-buffers.false)) (sym c.are_sized.ensures ∙ c.if-not-are_sized.false))
