use Rattle.std.proofs.Common.{take}
use Rattle.krb_realm_files.specs.Named.{AreRecords}
use Rattle.krb_realm_files.proofs.writing.records_of.Given as goal

abbrev pub invariant-loop-one : goal.invariant-loop-one
invariant-loop-one l = AreRecords (take l.one-index l.accounts) l.records.items
