-- One step after another, up to the first that is refused.
use Rattle.std.specs.Prelude.{◌≡◌, ◌⊎◌, ℕ, suc, List, [], ◌∷◌, Result, Ok, Err, MatchResult}
use Rattle.toml.specs.Data.{Data, Items, no_items, item}

infixl 10 ◌>>=◌
abbrev pub ◌>>=◌ : {A B E : Type 0} → Result A E → (A → Result B E) → Result B E
Ok x >>= next = next x
Err e >>= next = Err e

-- what a list's items give, each with its number, which counts on from this one; or the first refusal
abbrev pub each_from : {A E : Type 0} → (ℕ → Data → Result A E) → ℕ → Items → Result (List A) E
each_from gives number no_items = Ok []
each_from gives number (item value rest) =
    gives number value >>= (λ x. each_from gives (suc number) rest >>= (λ xs. Ok (x ∷ xs)))

-- the answer with its value shown so
abbrev pub answer_shown : {A B E : Type 0} → (A → B) → Result A E → Result B E
answer_shown shown (Ok x) = Ok (shown x)
answer_shown shown (Err e) = Err e

-- the answer is the wanted one, shown so, or it is this refusal, of memory
abbrev pub IsAside : {A B E : Type 0} → E → (A → B) → Result B E → Result A E → Type 0
IsAside memory shown wanted answer = MatchResult answer (λ x. wanted ≡ Ok (shown x)) (λ e. (e ≡ memory) ⊎ (wanted ≡ Err e))
