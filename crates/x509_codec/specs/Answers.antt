-- What reading a whole input answers.
use Rattle.std.specs.Prelude.{◌≡◌, ◌↔◌, ◌⊎◌, ℕ, List, Result, Ok, Err}
use Rattle.x509_spelling.specs.declared.fault.X509Fault.{X509Fault}
use Rattle.x509_spelling.specs.declared.fault.X509Fault.TheVariants.{Memory}

-- either memory ran out, or the answer is a value if and only if the bytes are a spelling of it, with any count
abbrev pub ReadsSpelling : {T : Type 0} → (T → List ℕ → ℕ → Type 0) → List ℕ → Result T X509Fault → Type 0
ReadsSpelling {T} spells bytes answer =
    (answer ≡ Err Memory) ⊎ ((value : T) → (answer ≡ Ok value) ↔ ((n : ℕ) × spells value bytes n))

-- either memory ran out, or the answer is a count if and only if the bytes are a spelling of some value with that count
abbrev pub CountsSpelling : {T : Type 0} → (T → List ℕ → ℕ → Type 0) → List ℕ → Result ℕ X509Fault → Type 0
CountsSpelling {T} spells bytes answer =
    (answer ≡ Err Memory) ⊎ ((n : ℕ) → (answer ≡ Ok n) ↔ ((value : T) × spells value bytes n))
