use Rattle.std.proofs.Common.{◌≡◌, ◌++◌, take}
use Rattle.cdb.specs.Database.{table_octets}
use Rattle.cdb.proofs.making.put_slots.Given as goal

abbrev pub invariant-loop-cell : goal.invariant-loop-cell
invariant-loop-cell l = l.bytes.items ≡ l.initial.bytes.items ++ table_octets (take l.cell-index l.cells)
