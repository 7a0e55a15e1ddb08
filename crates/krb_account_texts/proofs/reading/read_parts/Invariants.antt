use Rattle.std.proofs.Common.{map}
use Rattle.krb_account_texts.specs.Lines.{written}
use Rattle.krb_account_texts.specs.Reading.{numbered}
use Rattle.krb_account_texts.proofs.Loops.{IsSoFar}
use Rattle.krb_account_texts.proofs.reading.read_parts.Given as goal

-- the lines so far
abbrev pub invariant-loop-index : goal.invariant-loop-index
invariant-loop-index l = IsSoFar numbered (λ part. part.now) l.parts l.index (map written l.lines.items)
