-- What reading a value from an input answers.
use Rattle.std.specs.Prelude.{◌≡◌, List, ℕ, ◌++◌, ◌⊎◌, Result, Ok, Err}
use Rattle.asn1_der.specs.Tree.{Tree, Writes}
use Rattle.asn1_der.specs.Seen.{Seen, as_is, by, Alike}
use Rattle.asn1_der.specs.declared.error.Asn1DerError.{Asn1DerError}
use Rattle.asn1_der.specs.declared.error.Asn1DerError.TheVariants.{Memory}

-- the answer is this value, or one that shows the same
abbrev pub Gives : {T : Type 0} → Seen T → Result T Asn1DerError → T → Type 0
Gives as_is answer value = answer ≡ Ok value
Gives (by V view) (Ok got) value = view got ≡ view value
Gives (by V view) (Err fault) value = ⊥

-- the front of a text is read as one value, and is one front; `reads` says which bytes are read as a value
abbrev pub IsOneValue : {T : Type 0} → Seen T → (T → List ℕ → Type 0) → Type 0
IsOneValue {T} seen reads =
    (v w : T) (a b x y : List ℕ) → reads v a → reads w b → a ++ x ≡ b ++ y → Alike seen v w × (a ≡ b)

-- the input begins with bytes that are read as the value
abbrev pub BeginsBy : {T : Type 0} → (T → List ℕ → Type 0) → T → List ℕ → Type 0
BeginsBy reads value input = (bytes rest : List ℕ) × reads value bytes × (input ≡ bytes ++ rest)

-- either memory ran out, or the answer is a value, as which the input begins, and gives each value that it begins with
abbrev pub ReadsFront : {T : Type 0} → Seen T → (T → List ℕ → Type 0) → List ℕ → Result T Asn1DerError → Type 0
ReadsFront {T} seen reads input answer =
    (answer ≡ Err Memory)
    ⊎ ((value : T) → (answer ≡ Ok value → BeginsBy reads value input) × (BeginsBy reads value input → Gives seen answer value))

-- either memory ran out, or the answer is a value, as which the input is read, and gives each value that it is read as
abbrev pub ReadsWhole : {T : Type 0} → Seen T → (T → List ℕ → Type 0) → List ℕ → Result T Asn1DerError → Type 0
ReadsWhole {T} seen reads input answer =
    (answer ≡ Err Memory)
    ⊎ ((value : T) → (answer ≡ Ok value → reads value input) × (reads value input → Gives seen answer value))

-- the one encoding of the value begins the input
abbrev pub BeginsWith : {T : Type 0} → (T → Tree) → T → List ℕ → Type 0
BeginsWith tree value input = BeginsBy (Writes tree) value input

-- memory aside, the answer is the value whose one encoding begins the input, or a fault where there is none
abbrev pub Reads : {T : Type 0} → (T → Tree) → List ℕ → Result T Asn1DerError → Type 0
Reads tree input answer = ReadsFront as_is (Writes tree) input answer

-- memory aside, the answer is the value whose one encoding the input is, or a fault where there is none
abbrev pub ReadsAll : {T : Type 0} → (T → Tree) → List ℕ → Result T Asn1DerError → Type 0
ReadsAll tree input answer = ReadsWhole as_is (Writes tree) input answer
