-- One step after another, up to the first that is refused.
use Rattle.std.specs.Prelude.{◌≡◌, ◌⊎◌, ℕ, ◌+◌, List, [], ◌∷◌, Result, Ok, Err, MatchResult}

infixl 10 ◌>>=◌
abbrev pub ◌>>=◌ : {A B E : Type 0} → Result A E → (A → Result B E) → Result B E
Ok x >>= next = next x
Err e >>= next = Err e

-- What each text gives, by its number, which counts on from this one; or the first refusal.
abbrev pub each_from : {A E : Type 0} → (ℕ → List ℕ → Result A E) → ℕ → List (List ℕ) → Result (List A) E
each_from gives number [] = Ok []
each_from gives number (text ∷ texts) =
    gives number text >>= (λ x. each_from gives (number + 1) texts >>= (λ xs. Ok (x ∷ xs)))

-- What was returned is the expected outcome, with its value seen by `shown`, or memory ran out.
abbrev pub IsAside : {A B E : Type 0} → E → (A → B) → Result B E → Result A E → Type 0
IsAside memory shown expected answer = MatchResult answer (λ x. expected ≡ Ok (shown x)) (λ e. (e ≡ memory) ⊎ (expected ≡ Err e))
