use Rattle.std.proofs.Common.{length}
use Rattle.pkinit_messages.proofs.agility.further.+ascend.Given as goal

abbrev pub decreases-ascend : goal.decreases-ascend
decreases-ascend l = length l.fields.now
