use Rattle.std.proofs.Common.{arith}
use Rattle.encryption_profiles.proofs.Pbkdf2Lemmas.{xor_of_from_bytes}
use Rattle.encryption_profiles.proofs.pbkdf2.add.Goals as goal

pub returns : goal.returns
returns g c = xor_of_from_bytes c.args.sum.now c.args.other.now c.loop-i.sum c.loop-i.invariant.same_length (λ k h. c.loop-i.invariant.below k (omega arith))
