-- Sorted records, as a list.
use Rattle.std.specs.Prelude.{List}
use Rattle.cdb.specs.declared.records.Record.{Record}
use Rattle.cdb.specs.declared.records.Sorted.{Sorted}

-- The records that a value of `Sorted` borrows.
abbrev pub held_records : Sorted → List Record
held_records sorted = sorted.records.now
