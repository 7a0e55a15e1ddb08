-- What reading a value from a source answers, by the bytes of the source alone.
use Rattle.std.specs.Io.KnownBytes.{Consumes}
use Rattle.std.specs.Prelude.{◌≡◌, ℕ, ◌≤◌, List, ◌++◌, length, take, Option, Some, IfSome, ⊤, ◌⊎◌, Result, Ok, Err, MatchResult}
use Rattle.asn1_der.specs.declared.error.Asn1DerError.{Asn1DerError}
use Rattle.asn1_der.specs.Seen.{Seen, Alike}
use Rattle.asn1_codec.specs.Named.{TellsEnd}
use Rattle.asn1_codec.specs.Reads.{Gives}
use Rattle.asn1_codec.specs.Reading.{IsExcuse, IsNotNext, IsReadBy}

-- the input begins with bytes that are read as the value, at most `limit` of them; `rest` follows them
abbrev pub BeginsWithin : {T : Type 0} → (T → List ℕ → Type 0) → ℕ → T → List ℕ → List ℕ → Type 0
BeginsWithin reads limit value input rest =
    (bytes : List ℕ) × reads value bytes × (length bytes ≤ limit) × (input ≡ bytes ++ rest)

-- a call took bytes that are read as this value, of at most so many, and just these
abbrev pub TakesNext : {T : Type 0} → (T → List ℕ → Type 0) → ℕ → Option (List ℕ) → Option (List ℕ) → T → Type 0
TakesNext reads limit old new value =
    (bytes : List ℕ) × reads value bytes × (length bytes ≤ limit) × Consumes old new bytes

-- memory ran out, the source failed, or no such bytes are next
abbrev pub MissesNext : {T : Type 0} → (T → List ℕ → Type 0) → ℕ → Option (List ℕ) → Asn1DerError → Type 0
MissesNext reads limit old fault = IsExcuse fault ⊎ IsNotNext (IsReadBy reads) old limit

-- what a fault says of the end of what is left, up to the limit, if that is known
abbrev pub TellsNext : {T : Type 0} → (T → List ℕ → Type 0) → ℕ → Option (List ℕ) → Asn1DerError → Type 0
TellsNext reads limit left fault = IfSome left (λ input. TellsEnd reads (take limit input) fault)

-- memory ran out, or the source failed
abbrev pub IsExcused : {T : Type 0} → Result T Asn1DerError → Type 0
IsExcused (Ok value) = ⊥
IsExcused (Err fault) = IsExcuse fault

-- what `from_reader_with_max_len` answers, by its contract
abbrev pub IsNextAnswer : {T : Type 0} → (T → List ℕ → Type 0) → ℕ → Option (List ℕ) → Option (List ℕ) → Result T Asn1DerError → Type 0
IsNextAnswer reads limit old new answer = MatchResult answer (TakesNext reads limit old new) (MissesNext reads limit old)

-- the value that the front of what is left is read as, and no other, with the rest left; or an excuse
abbrev pub ReadsNext : {T : Type 0} → Seen T → (T → List ℕ → Type 0) → ℕ → Option (List ℕ) → Option (List ℕ) → Result T Asn1DerError → Type 0
ReadsNext {T} seen reads limit left after answer =
    IsExcused answer
    ⊎ ((input : List ℕ) → left ≡ Some input → (value : T)
    → (answer ≡ Ok value → (rest : List ℕ) × BeginsWithin reads limit value input rest × (after ≡ Some rest))
    × ((rest : List ℕ) → BeginsWithin reads limit value input rest → Gives seen answer value × (after ≡ Some rest)))

-- the same value was read, and the same is left; or no value was read
abbrev pub IsSameReading : {T : Type 0} → Seen T → Result T Asn1DerError → Option (List ℕ) → Result T Asn1DerError → Option (List ℕ) → Type 0
IsSameReading seen (Ok value) left (Ok same) other = Alike seen value same × (left ≡ other)
IsSameReading seen (Ok value) left (Err fault) other = ⊥
IsSameReading seen (Err fault) left (Ok value) other = ⊥
IsSameReading seen (Err fault) left (Err again) other = ⊤
