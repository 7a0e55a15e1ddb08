-- Reads at positions of a file.
use Rattle.std.specs.Prelude.{◌≡◌, ℕ, ◌+◌, ◌<◌, ◌≤◌, List, length, take, drop, Result, Ok, Err}
use Rattle.std.specs.declared.io.ErrorKind.{ErrorKind}
use Rattle.cdb.specs.declared.fault.Fault.{Fault}
use Rattle.cdb.specs.declared.fault.Fault.TheVariants.{Failed, Damaged, Long}

-- The buffer has the octets from the position on.
abbrev pub IsFilled : ℕ → List ℕ → List ℕ → Type 0
IsFilled position bytes buffer = (position + length buffer ≤ length bytes) × (buffer ≡ take (length buffer) (drop position bytes))

-- What a read of a file with these octets returned: the buffer has the octets from the position on, or the file ends before, or the
-- file fails by such a kind of fault.
abbrev pub ReadsAt : (ErrorKind → Type 0) → Result (Unit {0}) Fault → ℕ → List ℕ → List ℕ → Type 0
ReadsAt fails (Ok _) position bytes buffer = IsFilled position bytes buffer
ReadsAt fails (Err (Failed kind)) position bytes buffer = fails kind
ReadsAt fails (Err Damaged) position bytes buffer = length bytes < position + length buffer
ReadsAt fails (Err Long) position bytes buffer = ⊥

-- A refusal is the one that the file's octets give, or the file fails by such a kind of fault.
abbrev pub Fails : {X : Type 0} → (ErrorKind → Type 0) → Fault → Result X Fault → Type 0
Fails fails (Failed kind) said = fails kind
Fails fails Damaged said = said ≡ Err Damaged
Fails fails Long said = said ≡ Err Long

-- A call returned what the file's octets say, or the file fails by such a kind of fault.
abbrev pub Gives : {X : Type 0} → (ErrorKind → Type 0) → Result X Fault → Result X Fault → Type 0
Gives fails (Ok x) said = said ≡ Ok x
Gives fails (Err fault) said = Fails fails fault said

-- One step after another, up to the first fault.
infixl 10 ◌>>=◌
abbrev pub ◌>>=◌ : {X Y : Type 0} → Result X Fault → (X → Result Y Fault) → Result Y Fault
(Ok x) >>= next = next x
(Err fault) >>= next = Err fault
