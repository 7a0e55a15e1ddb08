-- Steps of reading.
use Rattle.std.specs.Prelude.{◌≡◌, ◌⊎◌, ℕ, List, Result, Ok, Err, MatchResult}
use Rattle.krb_pac.specs.declared.error.PacFault.{PacFault}
use Rattle.krb_pac.specs.declared.error.PacFault.TheVariants.{Memory}

-- One step after another, up to the first refusal.
infixl 10 ◌>>=◌
abbrev pub ◌>>=◌ : {X Y : Type 0} → Result X PacFault → (X → Result Y PacFault) → Result Y PacFault
(Ok x) >>= next = next x
(Err fault) >>= next = Err fault

-- What is read at a place: a value and the place behind it, or a refusal.
abbrev pub Reading : Type 0 → Type 0
Reading A = ℕ → List ℕ → Result (A × ℕ) PacFault

-- A call returns this value or this refusal, or memory ran out.
abbrev pub Gives : {A B : Type 0} → (A → B) → Result A PacFault → Result B PacFault → Type 0
Gives view result said = MatchResult result (λ a. said ≡ Ok (view a)) (λ e. (e ≡ Memory) ⊎ (said ≡ Err e))
