-- How many moments are left.
use Rattle.std.specs.Prelude.{ℕ}
use Rattle.krb_frames.specs.declared.clock_moments.ClockMoments.{ClockMoments}

-- How many more moments are taken at most.
abbrev pub moments_left : {C : Type 0} → ClockMoments C → ℕ
moments_left s = s.left
