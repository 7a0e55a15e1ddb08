use Rattle.std.proofs.Common.{◌<◌, ◌≤◌, ℕ, length, get_or}
use Rattle.cdb.specs.declared.records.Record.{Record}
use Rattle.cdb.proofs.writing.are_short.Given as goal

abbrev pub invariant-loop-one : goal.invariant-loop-one
invariant-loop-one l = (k : ℕ) (d : Record) → k < l.one-index → length (get_or l.records k d).content.items ≤ l.room
