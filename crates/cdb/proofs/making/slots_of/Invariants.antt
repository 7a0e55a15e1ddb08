use Rattle.std.proofs.Common.{◌≡◌, ◌+◌, ◌++◌, drop}
use Rattle.cdb.specs.declared.format.TheConstants.{HEADER_SIZE}
use Rattle.cdb.specs.Filling.{AreHashes, records_size, slots_from}
use Rattle.cdb.proofs.making.slots_of.Given as goal

abbrev pub invariant-loop-one : goal.invariant-loop-one
invariant-loop-one l = record {
  place : l.at + records_size (drop l.one-index l.records) ≡ HEADER_SIZE + records_size l.records;
  made : l.slots.items ++ slots_from l.at (drop l.one-index l.records) ≡ slots_from HEADER_SIZE l.records;
  hashes : AreHashes l.slots.items;
}
