use Rattle.std.proofs.Common.{arith, ◌∙◌}
use Rattle.encryption_profiles.proofs.HmacLemmas.{fitted-short}
use Rattle.encryption_profiles.proofs.mac.filled.Goals as goal

pub returns : goal.returns
returns g c = c.loop-i.invariant ∙ fitted-short g.row.B c.loop-i.i c.args.bytes.now (omega arith) (omega arith)
