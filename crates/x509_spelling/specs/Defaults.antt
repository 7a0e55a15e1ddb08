-- There is one FALSE.
use Rattle.std.proofs.Common.{◌≡◌, Bool, true, false, not, refl}
use Rattle.std.specs.Prelude.{IsTrue}

pub one_false : (a b : Bool) → IsTrue (not a) → IsTrue (not b) → a ≡ b
one_false false false left right = refl
one_false true b left right = absurd (cc (left))
one_false false true left right = absurd (cc (right))
