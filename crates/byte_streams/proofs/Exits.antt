-- What the exit of a `?` returns.
use Rattle.std.proofs.Common.{◌≡◌, Result, Ok, Err, IsErrAnd, MatchResult, sym, subst}

-- the exit that hands a callee's fault on
pub at-exit : {T E : Type 0} (r : Result T E) (e : E) (P : T → Type 0) (Q : E → Type 0) → IsErrAnd r (λ y. y ≡ e) → Q e → MatchResult r P Q
at-exit (Ok x) e P Q is q = absurd is
at-exit (Err y) e P Q is q = subst Q (sym is) q
