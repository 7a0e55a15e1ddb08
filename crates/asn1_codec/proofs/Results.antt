-- A result that is returned unchanged: what holds of its value or fault implies what is required.
use Rattle.std.proofs.Common.{◌≡◌, Bool, true, false, Result, Ok, Err, MatchResult}
use Rattle.std.proofs.lemmas.Bool.{false≢true}
use Rattle.std.specs.Result.{is_err}

pub handed-value : {T E : Type 0} (r : Result T E) (b : Bool) (P P2 : T → Type 0) (Q Q2 : E → Type 0) → b ≡ is_err r → b ≡ false → MatchResult r P Q
    → ((value : T) → P value → P2 value) → MatchResult r P2 Q2
handed-value (Ok value) b P P2 Q Q2 test is known more = more value known
handed-value (Err fault) b P P2 Q Q2 test is known more = absurd (false≢true (cc (test, is)))

pub handed-fault : {T E : Type 0} (r : Result T E) (b : Bool) (P P2 : T → Type 0) (Q Q2 : E → Type 0) → b ≡ is_err r → b ≡ true → MatchResult r P Q
    → ((fault : E) → Q fault → Q2 fault) → MatchResult r P2 Q2
handed-fault (Ok value) b P P2 Q Q2 test is known more = absurd (false≢true (cc (test, is)))
handed-fault (Err fault) b P P2 Q Q2 test is known more = more fault known

-- the value that is held
pub held-value : {T E : Type 0} (r : Result T E) (b : Bool) (P : T → Type 0) (Q : E → Type 0) → b ≡ is_err r → b ≡ false → MatchResult r P Q → (value : T) × P value
held-value (Ok value) b P Q test is known = (value, known)
held-value (Err fault) b P Q test is known = absurd (false≢true (cc (test, is)))

pub handed-on : {T E : Type 0} (r : Result T E) (P P2 : T → Type 0) (Q Q2 : E → Type 0) → MatchResult r P Q
    → ((value : T) → P value → P2 value) → ((fault : E) → Q fault → Q2 fault) → MatchResult r P2 Q2
handed-on (Ok value) P P2 Q Q2 known more less = more value known
handed-on (Err fault) P P2 Q Q2 known more less = less fault known
