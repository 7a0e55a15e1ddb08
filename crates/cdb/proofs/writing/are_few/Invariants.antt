use Rattle.std.proofs.Common.{◌≡◌, ◌+◌, ◌^◌, drop}
use Rattle.cdb.specs.Writing.{database_size, entries_size}
use Rattle.cdb.proofs.writing.are_few.Given as goal

abbrev pub invariant-loop-one : goal.invariant-loop-one
invariant-loop-one l = l.left + 1 + database_size l.records ≡ 2 ^ 32 + entries_size (drop l.one-index l.records)
