use Rattle.cdb.specs.Filling.{AreTables}
use Rattle.cdb.proofs.making.tables_of.Given as goal

abbrev pub invariant-loop-number : goal.invariant-loop-number
invariant-loop-number l = AreTables l.number l.start l.slots l.pointers.items l.octets.items
