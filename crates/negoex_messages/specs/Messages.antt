-- Whole messages: the header, what fills it up, and the payload (MS-NEGOEX, section 2.2.6).
use Rattle.std.specs.Prelude.{◌≡◌, ℕ, ◌+◌, ◌⊎◌, List, ◌++◌, length, take, Ok, Option, Result, MatchResult}
use Rattle.std.specs.declared.io.ErrorKind.{ErrorKind}
use Rattle.std.specs.declared.io.ErrorKind.TheVariants.{OutOfMemory}
use Rattle.byte_streams.specs.Stops.{IsWriteStop}
use Rattle.negoex_messages.specs.Form.{Layout, IsWithin, IsTooLong}
use Rattle.negoex_messages.specs.declared.error.NegoexError.{NegoexError}

-- the value is in the message: its header in front, and its payload where the header says
abbrev pub IsMessage : {V : Type 0} → Layout V → V → List ℕ → Type 0
IsMessage l v whole = l.IsLaid v (take l.width whole) whole

-- the bytes of a message whose payload is said to begin at o
abbrev pub message_bytes : {V : Type 0} → Layout V → List ℕ → V → ℕ → List ℕ
message_bytes l filler v o = l.head v o ++ (filler ++ l.body v o)

-- the offset is where the payload begins
abbrev pub IsTrueOffset : {V : Type 0} → Layout V → List ℕ → ℕ → Type 0
IsTrueOffset l filler o = o ≡ l.width + length filler

-- memory ran out or the payload ends past 32 bits, and nothing was written and no write failed; or a write stopped
abbrev pub IsEncodeStop : ℕ → ℕ → Option (List ℕ) → Option (List ℕ) → ℕ → ℕ → Option ErrorKind → NegoexError → Type 0
IsEncodeStop o n before after old new last e =
    (IsTooLong o n e × (after ≡ before) × (new ≡ old)) ⊎ IsWriteStop old new last e.kind

-- memory aside
abbrev pub GivesBack : {T V : Type 0} → (T → V) → V → Result T NegoexError → Type 0
GivesBack view v result = MatchResult result (λ t. view t ≡ v) (λ e. e.kind ≡ OutOfMemory)

-- what is written is read: with numbers that fit their fields, the offset where the payload begins, and an end within 32 bits
abbrev pub WrittenIsRead : {V : Type 0} → Layout V → List ℕ → Type 0
WrittenIsRead {V} l filler =
    (v : V) (o : ℕ) → l.Fits v → IsTrueOffset l filler o → IsWithin o (l.payload v)
    → l.read (take l.width (message_bytes l filler v o)) (message_bytes l filler v o) ≡ Ok v
