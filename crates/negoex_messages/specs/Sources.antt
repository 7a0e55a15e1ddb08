-- Headers that are read from a device. `after` is what is left behind what came.
use Rattle.std.specs.Prelude.{◌≡◌, ℕ, ◌≤◌, ◌<◌, ◌⊎◌, List, length, take, Option, Some, Result, Err, MatchResult}
use Rattle.std.specs.Io.KnownBytes.{Consumes, IsAtEnd}
use Rattle.std.specs.declared.io.ErrorKind.{ErrorKind}
use Rattle.std.specs.declared.io.ErrorKind.TheVariants.{OutOfMemory, UnexpectedEof}
use Rattle.byte_streams.specs.Counting.{one_more}
use Rattle.byte_streams.specs.Stops.{FailedAtMostOnce}
use Rattle.negoex_messages.specs.Form.{Layout}
use Rattle.negoex_messages.specs.declared.error.NegoexError.{NegoexError}

-- what is wrong with bytes that a device cut is answered, and in the place of their end the device's fault
abbrev pub IsCutShort : ErrorKind → ErrorKind → ErrorKind → Type 0
IsCutShort cause kind e = ((kind ≡ UnexpectedEof) × (e ≡ cause)) ⊎ ((kind ≡ UnexpectedEof → ⊥) × (e ≡ kind))

-- the device failed inside the header: what is wrong in all the bytes that came before is answered, and else its fault
pub record IsBroken {V : Type 0} (l : Layout V) (message bytes : List ℕ) (after : Option (List ℕ)) (old new : ℕ) (last : Option ErrorKind) (e : NegoexError) : Type 0 where
  pub cause : ErrorKind
  pub counted : new ≡ one_more old
  pub told : last ≡ Some cause
  pub came : List ℕ
  pub taken : Consumes (Some bytes) after came
  pub kind : ErrorKind
  pub wrong : l.read came message ≡ Err kind
  pub answered : IsCutShort cause kind e.kind

-- memory ran out; or nothing can be read of these bytes, by this fault; or the device failed
abbrev pub IsRefusal : {V : Type 0} → Layout V → List ℕ → List ℕ → Option (List ℕ) → ℕ → ℕ → Option ErrorKind → NegoexError → Type 0
IsRefusal l message bytes after old new last e =
    (e.kind ≡ OutOfMemory) ⊎ ((l.read (take l.width bytes) message ≡ Err e.kind) ⊎ IsBroken l message bytes after old new last e)

-- the value at the front of these bytes is given back, unless memory runs out or the device fails
abbrev pub IsGiven : {T V : Type 0} → (T → V) → Layout V → List ℕ → List ℕ → Option (List ℕ) → ℕ → ℕ → Option ErrorKind → Result T NegoexError → Type 0
IsGiven {T} {V} view l message bytes after old new last result =
    (v : V) → l.Fits v → l.IsLaid v (take l.width bytes) message
    → MatchResult result (λ t. view t ≡ v) (λ e. (e.kind ≡ OutOfMemory) ⊎ IsBroken l message bytes after old new last e)

-- So many bytes at most came of a header, of which nothing can be read, by this fault. Where fewer came, the device is at its end, or it
-- failed.
abbrev pub IsWrongFront : {V : Type 0} → Layout V → List ℕ → Option (List ℕ) → ℕ → ℕ → ErrorKind → Type 0
IsWrongFront l message after old new kind =
    (came : List ℕ) × (length came ≤ l.width) × (length came < l.width → IsAtEnd after ⊎ (new ≡ one_more old)) × (l.read came message ≡ Err kind)

-- what a refusal tells of any device, its bytes known or not: memory ran out or what came is wrong, and one call may have failed;
-- or the device failed with this kind of fault and counted it
abbrev pub TellsRead : {V : Type 0} → Layout V → List ℕ → Option (List ℕ) → ℕ → ℕ → Option ErrorKind → NegoexError → Type 0
TellsRead l message after old new last e =
    (((e.kind ≡ OutOfMemory) ⊎ IsWrongFront l message after old new e.kind) × FailedAtMostOnce old new) ⊎ ((new ≡ one_more old) × (last ≡ Some e.kind))
