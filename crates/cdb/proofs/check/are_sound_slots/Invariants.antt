use Rattle.std.proofs.Common.{◌≡◌, ◌+◌, ◌*◌, ◌<◌, ℕ, List, Some}
use Rattle.cdb.specs.declared.format.TheConstants.{PAIR_SIZE}
use Rattle.cdb.specs.Check.{IsSoundSlot}
use Rattle.cdb.proofs.check.are_sound_slots.Given as goal

abbrev pub invariant-loop-slot : goal.invariant-loop-slot
invariant-loop-slot g l = (bytes : List ℕ) → g.F.ReadAt.content l.file ≡ Some bytes → (slot : ℕ) → slot < l.slot → IsSoundSlot (g.K.Keys.has l.keys) bytes (l.start + PAIR_SIZE * slot)
