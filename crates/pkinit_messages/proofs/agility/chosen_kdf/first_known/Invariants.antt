use Rattle.std.proofs.Common.{◌≡◌, length}
use Rattle.pkinit_messages.specs.ChosenKdfs.{first_known}
use Rattle.pkinit_messages.proofs.agility.chosen_kdf.first_known.Given as goal

abbrev pub invariant-kdfs : goal.invariant-kdfs
invariant-kdfs l = first_known l.kdfs ≡ first_known l.rest

abbrev pub decreases-kdfs : goal.decreases-kdfs
decreases-kdfs l = length l.rest
