-- A table has an outcome where its parts have one.
use Rattle.std.proofs.Common.{◌≡◌, ℕ, Bool, true, false, Option, None, Some, Result, Ok, Err, refl, inl, inr}
use Rattle.decision_tables.specs.One.{IsSole}
use Rattle.decision_tables.specs.Tables.{Table, and_then, as_made, ask, done, make, need, refuse}
use Rattle.decision_tables.specs.Some.{HasSome}

-- the table has an outcome
abbrev pub HasOutcome : {T : Type 0} → Table T → Type 0
HasOutcome {T} table = HasSome {A = T} table.gives

pub some_of : {A : Type 0} (P : A → Type 0) (a : A) → P a → HasSome P
some_of P a p = λ none. none a p

pub has_done : {T : Type 0} (x : T) → HasOutcome (done x)
has_done x = λ none. none x refl

pub has_refused : {T E : Type 0} (case : Bool) (error : E) (rest : Table (Result T E)) → (case ≡ false → HasOutcome rest) → HasOutcome (refuse case error rest)
has_refused true error rest has = has_done (Err error)
has_refused false error rest has = has refl

pub has_needed : {A T E : Type 0} (option : Option A) (error : E) (rest : A → Table (Result T E)) → ((a : A) → option ≡ Some a → HasOutcome (rest a)) → HasOutcome (need option error rest)
has_needed None error rest has = has_done (Err error)
has_needed (Some a) error rest has = has a refl

pub has_asked : {A T : Type 0} (P : A → Type 0) (sole : IsSole P) (otherwise : Table T) (rest : A → Table T) → HasOutcome otherwise
    → ((a : A) → P a → HasOutcome (rest a)) → HasOutcome (ask P sole otherwise rest)
has_asked P sole otherwise rest other each = λ none. other (λ r x. none r (inr (λ a p. each a p (λ s y. none s (inl (a, p, y))), x)))

pub has_made : {A T : Type 0} (P : A → Type 0) (sole : IsSole P) (rest : A → Table T) → HasSome P → ((a : A) → P a → HasOutcome (rest a)) → HasOutcome (make P sole rest)
has_made P sole rest some each = λ none. some (λ a p. each a p (λ s y. none s (a, p, y)))

pub has_as_made : {T U : Type 0} (f : T → U) (t : Table T) → HasOutcome t → HasOutcome (as_made f t)
has_as_made f t some = λ none. some (λ a x. none (f a) (a, x, refl))

-- of the parts' own outcomes one follows
follows : {A T : Type 0} (t : Table (Result A ℕ)) (rest : A → Table (Result T ℕ)) (none : (s : Result T ℕ) → (and_then {A = A} {T = T} t rest).gives s → ⊥)
    → ((a : A) → t.gives (Ok a) → HasOutcome (rest a)) → (r : Result A ℕ) → t.gives r → ⊥
follows t rest none each (Ok a) x = each a x (λ s y. none s (inl (a, x, y)))
follows t rest none each (Err code) x = none (Err code) (inr (code, x, refl))

pub has_then : {A T : Type 0} (t : Table (Result A ℕ)) (rest : A → Table (Result T ℕ)) → HasOutcome t → ((a : A) → t.gives (Ok a) → HasOutcome (rest a)) → HasOutcome (and_then {A = A} {T = T} t rest)
has_then t rest some each = λ none. some (follows t rest none each)
