-- By the empty reply in place of none no message is refused.
use Rattle.std.proofs.Common.{ℕ, List, Option}
use Rattle.krb_frames.specs.Serving.{MayRefuse}
use Rattle.krb_frames.specs.Tolerance.{Tolerates}

pub refuses_none : (replies : List ℕ → ℕ → List ℕ → Option (List ℕ) → Type 0) → ¬ MayRefuse (Tolerates replies)
unfolding MayRefuse
refuses_none replies refused = refused.3
