use Rattle.std.proofs.Common.{◌≡◌, ◌++◌, take}
use Rattle.cdb.specs.Database.{records_octets}
use Rattle.cdb.proofs.making.put_records.Given as goal

abbrev pub invariant-loop-one : goal.invariant-loop-one
invariant-loop-one l = l.bytes.items ≡ l.initial.bytes.items ++ records_octets (take l.one-index l.records)
