use Rattle.std.proofs.Common.{◌≡◌, ◌-◌, ◌/◌, ◌%◌, ◌<◌, ℕ, List, Some}
use Rattle.cdb.specs.declared.format.TheConstants.{TABLES}
use Rattle.cdb.specs.Find.{probed}
use Rattle.cdb.proofs.tables.probe.Given as goal

abbrev pub invariant-loop : goal.invariant-loop
invariant-loop g l = record {
  within : l.slot < l.slots;
  same : (bytes : List ℕ) → g.F.ReadAt.content l.file ≡ Some bytes
      → probed l.key l.hash l.start l.slots bytes l.slot (l.slots - l.counter) ≡ probed l.key l.hash l.start l.slots bytes (l.hash / TABLES % l.slots) l.slots;
}
